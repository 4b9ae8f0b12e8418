-- The register that examined bytes are: what a contract says of the code's view.
use Rattle.std.specs.Prelude.{◌≡◌, false, Result, Ok, Err}
use Rattle.words.specs.Words.{Bytes}
use Rattle.rules.specs.declared.answer.Refusal.{Refusal}
use Rattle.rules.specs.declared.answer.Refusal.TheVariants.{RegisterIllFormed}
use Rattle.rules.specs.Register.{Register, is_register, register_in}
use Rattle.registers.specs.declared.register.Register as examined

-- the register that the bytes are
abbrev pub register_of : examined.Register → Register
register_of r = register_in r.bytes.now

-- of bytes that are examined: they are a register, or they are refused, and are none
abbrev pub Examined : Bytes → Result examined.Register Refusal → Type 0
Examined b (Ok r) = r.bytes.now ≡ b
Examined b (Err x) = (x ≡ RegisterIllFormed) × (is_register b ≡ false)
