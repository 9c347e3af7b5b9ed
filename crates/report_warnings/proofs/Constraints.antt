-- Constraints by what they say.
use Rattle.std.proofs.Common.{◌≡◌, Option, Some, None, option_map, refl, sym, ap, ◌∙◌}
use Rattle.model.specs.sites.Sites.{Constraint, is_variant, is_struct, is_bool, is_int, is_prim, is_present}
use Rattle.core_rule_sets.specs.SiteViews.{constraint_view}
use Rattle.core_rule_sets.specs.declared.trie_again.Constraint as C
use Rattle.core_rule_sets.specs.declared.trie_again.Constraint.TheVariants as T

abbrev of_view : Constraint → C.Constraint
of_view (is_variant ty v fields) = T.Variant (record { 0 = ty }) (record { 0 = v }) fields
of_view (is_struct ty fields) = T.Struct (record { 0 = ty }) fields
of_view (is_bool b ty) = T.ConstBool b (record { 0 = ty })
of_view (is_int z ty) = T.ConstInt z (record { 0 = ty })
of_view (is_prim name) = T.ConstPrim (record { 0 = name })
of_view is_present = T.Some

back : (c : C.Constraint) → of_view (constraint_view c) ≡ c
back (T.Variant ty v fields) = refl
back (T.Struct ty fields) = refl
back (T.ConstBool b ty) = refl
back (T.ConstInt z ty) = refl
back (T.ConstPrim name) = refl
back T.Some = refl

back_each : (o : Option C.Constraint) → option_map of_view (option_map constraint_view o) ≡ o
back_each None = refl
back_each (Some c) = ap Some (back c)

-- a constraint is no more than what it says
pub one_said : (o p : Option C.Constraint) → option_map constraint_view o ≡ option_map constraint_view p → o ≡ p
one_said o p e = sym (back_each o) ∙ ap (option_map of_view) e ∙ back_each p
