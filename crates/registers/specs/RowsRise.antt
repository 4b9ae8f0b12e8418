-- The rows of a sound register stand in the order of their keys.
use Rattle.std.specs.Prelude.{ℕ, ◌<◌, ◌≡◌, true, length}
use Rattle.rules.specs.Register.{Register, key_of, sound_register}
use Rattle.laws.specs.RegisterLaws.{sound_register→}
use Rattle.laws.specs.Rising.{rising→}
use Rattle.laws.specs.Places.{rising_at}
use Rattle.registers.specs.RegisterReadings.{row_at, no_row}

-- a later row has a larger key
pub larger : (g : Register) → sound_register g ≡ true → (i j : ℕ) → i < j → j < length g.rows → (row_at g i).key < (row_at g j).key
unfolding row_at
larger g s i j h l = rising_at key_of no_row (rising→ key_of 0 g.rows (sound_register→ g s).keys).0 i j h l
