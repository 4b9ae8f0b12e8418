-- Texts written one behind the other are one text.
use Prim.Native.Nat.{ℕ, ◌<◌, ◌^◌}
use mathlib.Core.Path.{◌≡◌, refl, sym}
use mathlib.Core.List.{[], ◌++◌}
use native.Mathlib.Nat.{add-zero}
use native.Mathlib.Omega.{arith}
use lib.ListN.{length-append}
use borrow.Author.Tests.{lt-ltb, le-ltb}
use Rattle.std.specs.Fmt as std
use Rattle.std.proofs.lemmas.Fmt.{AppendsLastDigit, decimal_from_appends, length-decimal-le}
use Rattle.words.specs.Words.{Bytes, stored}
use Rattle.words.specs.WordLaws.{then_stored}
use Rattle.report.specs.declared.text.Text.{Text}
use Rattle.report.specs.Report.{Put, digits, number_room, decimal}
use Rattle.report.specs.Text.{Writes}

-- nothing is written yet
pub no_text : (t : Text) → Writes [] t t
no_text t = record { same_bytes = refl; as_many = refl; put = record { bytes = unfold stored in refl; place = sym (add-zero t.at) } }

-- a writing, and another where it ended
pub then_put : {xs ys l₀ l₁ l₂ : Bytes} {at k r : ℕ} → Put xs l₀ at l₁ k → Put ys l₁ k l₂ r → Put (xs ++ ys) l₀ at l₂ r
then_put {xs} {ys} {l₀} {at = at} {k} p q =
    record {
      bytes = then_stored l₀ at k xs ys p.bytes q.bytes p.place;
      place = simp length-append (omega (arith, p.place, q.place));
    }

pub then_writes : {xs ys : Bytes} {t₀ t₁ t₂ : Text} → Writes xs t₀ t₁ → Writes ys t₁ t₂ → Writes (xs ++ ys) t₀ t₂
then_writes p q = record { same_bytes = cc; as_many = cc; put = then_put p.put q.put }

-- digits put the last one behind the others
by_last_digits : AppendsLastDigit digits
unfolding digits
by_last_digits = record { one = λ k n h. rw (lt-ltb n 10 h) refl; more = λ k n h. rw (le-ltb n 10 h) refl }

-- the number as std writes it
pub number_text : (n : ℕ) → n < 2 ^ 64 → std.decimal n ≡ decimal n
unfolding decimal
number_text n h = sym (decimal_from_appends digits by_last_digits number_room n h (length-decimal-le number_room n (omega arith) (omega arith) h))
