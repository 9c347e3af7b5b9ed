-- Terms among names and rules: what is looked up is there, and which names one more rule gives a constructor.
use Rattle.std.proofs.Common.{◌≡◌, ℕ, suc, ◌<◌, ◌||◌, Bool, true, false, List, [], ◌∷◌, ◌++◌, length, Option, Some, option_map, option_and_then, refl, sym, ap, ◌∙◌, arith}
use Rattle.std.specs.List.{list_any}
use Rattle.std.specs.Str.{bytes_eq}
use Rattle.std.proofs.lemmas.List.Folds.{list_any-append}
use Rattle.std.proofs.lemmas.Slice.Eq.{bytes_eq-Decides}
use Rattle.model.specs.lists.Syntax.{Name, RuleTree, Definition}
use Rattle.model.specs.lists.Names.{number, has_name, IsDistinct}
use Rattle.model.specs.lists.Tables.{internal_constructor}
use Rattle.model.specs.lists.TermTable.{root_name, has_root, is_rule_of}
use Rattle.std.proofs.Math.Bool.{or-true, or-false}
use Rattle.std.proofs.lemmas.Grind.{common_steps}
use Rattle.model.proofs.Bytes.{same_bytes}
use Rattle.model.proofs.Names.{found}
use Rattle.core_terms.specs.declared.term_table.TermTable.{TermTable}
use Rattle.core_terms.specs.TermTables.{term_at}
use Rattle.core_terms.specs.Reading.{IsWithin}
use Rattle.core_terms.specs.Stages.{constructor_after}

-- what is looked up is one of the table
pub is_within : (table : TermTable) → IsWithin table → (o : Option ℕ) (id : ℕ) → Some id ≡ option_and_then (term_at table) o → id < length table.terms.items
is_within table w o id h = grind (arith, common_steps)

turned : (x y : List ℕ) → bytes_eq x y ≡ true → bytes_eq y x ≡ true
turned x y e = (bytes_eq-Decides y x).1 (sym (same_bytes x y e))

pub turned_other : (x y : List ℕ) → bytes_eq x y ≡ false → bytes_eq y x ≡ false
turned_other x y e = grind (arith, common_steps, turned y x)

or_nothing : (a b : Bool) → a || (b || false) ≡ a || b
or_nothing a b = grind (arith, common_steps)

any_push : {X : Type 0} (p : X → Bool) (xs : List X) (x : X) → list_any p (xs ++ x ∷ []) ≡ list_any p xs || p x
any_push p xs x = list_any-append p xs (x ∷ []) ∙ or_nothing (list_any p xs) (p x)

pub distinct_rest : (y : List ℕ) (ys : List (List ℕ)) → IsDistinct (y ∷ ys) → IsDistinct ys
distinct_rest y ys once j k a p q = let h = once (suc j) (suc k) a p q in omega (arith, h)

pub distinct_first : (y : List ℕ) (ys : List (List ℕ)) → IsDistinct (y ∷ ys) → has_name ys y ≡ false
distinct_first y ys once = grind (arith, common_steps, found ys y, once 0 (suc (number ys y)) y refl)

pub one_before : (o : Option ℕ) (k : ℕ) → option_map suc o ≡ Some k → (j : ℕ) × (k ≡ suc j) × (o ≡ Some j)
one_before o k h = grind (arith, common_steps)

module _ (defs : List Definition) (read : List RuleTree) (r : RuleTree) (n : Name) (root : root_name r.pattern ≡ Some n) where
  is_rule : (x : List ℕ) → is_rule_of x r ≡ bytes_eq n.text x
  is_rule x = ap (has_root x) root

  pub same_constructor : (x : List ℕ) → bytes_eq x n.text ≡ false → constructor_after read x ≡ constructor_after (read ++ r ∷ []) x
  same_constructor x e = grind (arith, common_steps, is_rule x, turned_other x n.text e, any_push (is_rule_of x) read r, or-false (list_any (is_rule_of x) read))

  pub new_constructor : (x : List ℕ) → bytes_eq x n.text ≡ true → Some internal_constructor ≡ constructor_after (read ++ r ∷ []) x
  new_constructor x e = grind (arith, common_steps, is_rule x, turned x n.text e, any_push (is_rule_of x) read r, or-true (list_any (is_rule_of x) read))
