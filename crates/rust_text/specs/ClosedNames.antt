-- What is written of names and texts is read by itself: no quotes begin in it that don't end in it, no comment begins, and no dot stands outside quotes.
use Rattle.std.specs.Prelude.{◌≡◌, ℕ, true, false, List, decimal}
use Rattle.std.specs.Fmt.{digits}
use Rattle.model_code.specs.Closed.{is_closed, all_letters}
use Rattle.rust_items.specs.RustNames.{part, spelled, spelled_path, spelled_constant, quoted}

-- whatever a name is
pub record WrittenNamesAreClosed : Type 0 where
  pub part : (name : List ℕ) → all_letters (part name) ≡ true
  pub name : (name : List ℕ) → is_closed (spelled name) ≡ true
  pub path : (name : List ℕ) → is_closed (spelled_path name) ≡ true
  pub constant : (name : List ℕ) → is_closed (spelled_constant name) ≡ true
  pub quoted : (text : List ℕ) → is_closed (quoted text) ≡ true
  pub decimal : (n : ℕ) → all_letters (decimal n) ≡ true
  pub hexadecimal : (n : ℕ) → all_letters (digits 16 false n) ≡ true
