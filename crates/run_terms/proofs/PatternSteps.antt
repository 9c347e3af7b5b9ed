-- Fields that are seen of a value, what was asked holds or doesn't, and a rule's arguments as parts.
use Rattle.std.proofs.Common.{◌≡◌, ◌==◌, ◌&&◌, ℕ, Bool, true, false, if◌then◌else◌, List, [], ◌∷◌, Option, Some, None, Vec, refl, sym, ap, ◌∙◌}
use Rattle.std.proofs.lemmas.Bool.{false≢true}
use Rattle.std.specs.declared.alloc.Global.{Global}
use Rattle.core_types.specs.declared.ids.TypeId.{TypeId}
use Rattle.core_types.specs.declared.ids.VariantId.{VariantId}
use Rattle.model.specs.rules.Values as Values
use Rattle.model.specs.rules.Values.{Values}
use Rattle.model.specs.rules.Outcome.{then_option}
use Rattle.model.specs.rules.Program.{a_variant, a_struct, Program}
use Rattle.model.specs.rules.Typed.{TypedPatterns}
use Rattle.model.specs.rules.Matching.{Vars, parts_seen, holds, each_holds, args_hold}
use Rattle.model.specs.rules.Meaning.{Meaning}
use Rattle.core_typed.specs.declared.patterns.Pattern.{Pattern}
use Rattle.core_typed.specs.PatternViews.{pattern_view, pattern_views, pattern_parts}
use Rattle.run_terms.specs.declared.values.Value as V
use Rattle.run_terms.specs.declared.values.Value.{Value}
use Rattle.run_terms.specs.RunViews.{arg_views}
use Rattle.run_terms.specs.ValueViews.{value_view, value_views}
use Rattle.run_terms.proofs.ValueSteps.{view-Struct, view-Variant}
use Rattle.run_terms.specs.SourceViews.{if_held}

-- 1. the fields of a variant and of a struct
pub variant_seen : (v : Value) (s t : TypeId) (i j : VariantId) (xs : Vec Value Global) (out : Values) (b : Bool) → v ≡ V.Variant s i xs → b ≡ ((s.0 == t.0) && (i.0 == j.0)) → b ≡ true → out ≡ value_views xs.items
    → (m : Meaning) (n : ℕ) → Some out ≡ parts_seen (a_variant t.0 j.0) m n (value_view v)
variant_seen v s t i j xs out b e test t1 is m n =
    ap Some is ∙ ap (λ c. if c then Some (value_views xs.items) else None) (sym t1 ∙ test) ∙ sym (ap (parts_seen (a_variant t.0 j.0) m n) (ap value_view e ∙ view-Variant s i xs))

pub struct_seen : (v : Value) (s t : TypeId) (xs : Vec Value Global) (out : Values) (b : Bool) → v ≡ V.Struct s xs → b ≡ (s.0 == t.0) → b ≡ true → out ≡ value_views xs.items
    → (m : Meaning) (n : ℕ) → Some out ≡ parts_seen (a_struct t.0) m n (value_view v)
struct_seen v s t xs out b e test t1 is m n =
    ap Some is ∙ ap (λ c. if c then Some (value_views xs.items) else None) (sym t1 ∙ test) ∙ sym (ap (parts_seen (a_struct t.0) m n) (ap value_view e ∙ view-Struct s xs))

-- 2. what was asked holds, or doesn't
pub held : (b : Bool) (vars : Vars) (o : Option Vars) → if_held b vars ≡ o → b ≡ true → Some vars ≡ o
held true vars o e h = e
held false vars o e h = absurd (false≢true h)

pub not_held : (b : Bool) (vars : Vars) (o : Option Vars) → if_held b vars ≡ o → b ≡ false → None ≡ o
not_held true vars o e h = absurd (false≢true (sym h))
not_held false vars o e h = e

abbrev parts_of : List Pattern → TypedPatterns
parts_of qs = pattern_parts (pattern_views qs)

-- 3. the arguments of a rule
module _ (program : Program) (m : Meaning) where
  then_args : (o : Option Vars) (qs : List Pattern) (vs : List Value) → ((e : Vars) → each_holds program m (parts_of qs) (value_views vs) e ≡ args_hold program m (pattern_views qs) (arg_views vs) e)
      → then_option o (λ e. each_holds program m (parts_of qs) (value_views vs) e) ≡ then_option o (λ e. args_hold program m (pattern_views qs) (arg_views vs) e)
  then_args None qs vs h = refl
  then_args (Some e) qs vs h = h e

  pub args_as_parts : (qs : List Pattern) (vs : List Value) (vars : Vars) → each_holds program m (parts_of qs) (value_views vs) vars ≡ args_hold program m (pattern_views qs) (arg_views vs) vars
  args_as_parts [] [] vars = refl
  args_as_parts [] (v ∷ vs) vars = refl
  args_as_parts (q ∷ qs) [] vars = refl
  args_as_parts (q ∷ qs) (v ∷ vs) vars = then_args (holds program m (pattern_view q) (value_view v) vars) qs vs (λ e. args_as_parts qs vs e)
