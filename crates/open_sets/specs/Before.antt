-- Where a record with a key stands among records in key order.
use Rattle.std.specs.Prelude.{ℕ, suc, List, [], ◌∷◌, ltb, if◌then◌else◌}
use Rattle.rules.specs.declared.row.Record.{Record}

-- how many of the records come before one with the key
unfoldable pub records_before : ℕ → List Record → ℕ
records_before key [] = 0
records_before key (r ∷ rs) = if ltb key r.key then 0 else suc (records_before key rs)
