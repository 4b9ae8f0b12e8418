-- What it is to read a form: bytes are well-formed exactly if they are what a sound value is written as, so equal contents are equal bytes.
use Rattle.std.specs.Prelude.{Bool, if◌then◌else◌, Option, None, Some}
use Rattle.words.specs.Words.{Bytes, run_words}
use Rattle.rules.specs.Lists.{run_lists, ◌and◌, same}

module _ {A : Type 0} (decode : Bytes → A) (sound : A → Bool) (encode : A → Bytes) where
  -- the bytes are those of the value that they decode to, and it is sound
  unfoldable pub well_formed : Bytes → Bool
  well_formed b = sound (decode b) and same (encode (decode b)) b

  -- that value, or none exactly if the bytes are ill-formed
  unfoldable pub read : Bytes → Option A
  read b = if well_formed b then Some (decode b) else None

-- opens all of these, for a proof by computation
unfoldable pub run_forms : Unit {0}
unfolding run_lists run_words well_formed read
run_forms = tt
