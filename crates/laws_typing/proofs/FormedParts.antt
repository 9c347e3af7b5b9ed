-- What a passed test of the parts of a rule that hangs together gives.
use Rattle.std.proofs.Common.{◌≡◌, ℕ, Bool, true, false, if◌then◌else◌, List, Option, Some, None, is_some, is_none, eqb-true, arith}
use Rattle.std.proofs.lemmas.Grind.{common_steps}
use Rattle.std.proofs.lemmas.Option.{none-some}
use Rattle.model.specs.lists.Tables.{TermEntry}
use Rattle.model.specs.lists.Formed.{is_type, of_entry, where_bound}

pub from_if : {X : Type 0} (b : Bool) (o : Option X) (y : X) → (if b then o else None) ≡ Some y → (b ≡ true) × (o ≡ Some y)
from_if b o y e = grind (arith, common_steps, none-some)

pub from_entry : (o : Option TermEntry) (f : TermEntry → Bool) → of_entry o f ≡ true → (t : TermEntry) × (o ≡ Some t) × (f t ≡ true)
from_entry o f h = grind (arith, common_steps)

pub from_vars : (o : Option (List (ℕ × ℕ))) (f : List (ℕ × ℕ) → Bool) → where_bound o f ≡ true → (vars : List (ℕ × ℕ)) × (o ≡ Some vars) × (f vars ≡ true)
from_vars o f h = grind (arith, common_steps)

pub has_type : (o : Option ℕ) (ty : ℕ) → is_type o ty ≡ true → is_some o ≡ true
has_type o ty h = grind (arith, common_steps)

pub has_none : (o : Option ℕ) → is_none o ≡ true → is_some o ≡ false
has_none o h = grind (arith, common_steps)

pub type_is : (o : Option ℕ) (ty : ℕ) → is_type o ty ≡ true → o ≡ Some ty
type_is o ty h = grind (arith, common_steps, eqb-true)
