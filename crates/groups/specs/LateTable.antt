-- A table of entries by numbers that is made with its first room.
use Rattle.std.specs.Prelude.{ℕ, Option, Some, None, refl}
use Rattle.std.specs.Coded.{Coded, code_by, coded×, coded_ℕ}
use Rattle.std.specs.Ordering.{nat_cmp}
use Rattle.std.specs.FinMap as map
use Rattle.std.specs.HashMap.{HashMap, spare}

-- the entries, and how many more of them take no memory
pub record TableState (X : Type 0) : Type 0 where
  pub entries : map.FinMap nat_cmp X
  pub room : ℕ

-- a table is stored as the pair of its fields
abbrev pub table_code : {X : Type 0} → Coded X → Coded (TableState X)
table_code {X} item = code_by (map.FinMap nat_cmp X × ℕ) (coded× (map.code coded_ℕ item) coded_ℕ)
    (λ t. (t.entries, t.room)) (λ p. record { entries = p.0; room = p.1 }) (λ _. refl)

-- no entry, and room for none
abbrev pub none_made : {X : Type 0} → TableState X
none_made = record { entries = map.empty; room = 0 }

-- the entries of a hash table
unfoldable pub entries_of : {X S : Type 0} → HashMap ℕ X S → map.FinMap nat_cmp X
entries_of table = map.from_entries table.entries

-- the entries and the room of a hash table
abbrev pub state_of : {X S : Type 0} → HashMap ℕ X S → TableState X
state_of table = record { entries = entries_of table; room = spare table }

-- the same of one that may not be made yet
abbrev pub state_in : {X S : Type 0} → Option (HashMap ℕ X S) → TableState X
state_in None = none_made
state_in (Some table) = state_of table
