-- Variables, bound one after another, and their look-up.
use Rattle.std.proofs.Common.{◌≡◌, ◌==◌, ℕ, Bool, true, false, ◌+◌, ◌<◌, ◌≤◌, if◌then◌else◌, List, [], ◌∷◌, ◌++◌, length, get_or, take, Option, Some, None, Bor, option_map, option_copied, refl, sym, ap, ◌∙◌}
use Rattle.std.proofs.lemmas.List.{take_more, take_all}
use Rattle.core_types.specs.declared.ids.VarId.{VarId}
use Rattle.model.specs.rules.Values as Values
use Rattle.model.specs.rules.Meaning.{look}
use Rattle.model.specs.rules.Outcome.{then_option}
use Rattle.model.specs.rules.Matching.{Vars, var_value}
use Rattle.run_terms.specs.declared.values.Value.{Value}
use Rattle.run_terms.specs.ValueViews.{value_view}
use Rattle.run_terms.specs.SourceViews.{vars_onto, vars_view}

abbrev pub Bound : Type 0
Bound = VarId × Option Value

onto_push : (xs : List Bound) (x : Bound) (vars : Vars) → vars_onto (xs ++ x ∷ []) vars ≡ (x.0.0, option_map value_view x.1) ∷ vars_onto xs vars
onto_push [] x vars = refl
onto_push (y ∷ xs) x vars = onto_push xs x ((y.0.0, option_map value_view y.1) ∷ vars)

pub pushed : (old new : List Bound) (x : VarId) (o : Option Value) → new ≡ old ++ (x, o) ∷ [] → vars_view new ≡ (x.0, option_map value_view o) ∷ vars_view old
pushed old new x o is = ap vars_view is ∙ onto_push old (x, o) []

first_is : (b : Bool) (o : Option Values.Value) (l : Option (Option Values.Value)) → then_option (if b then Some o else l) (λ p. p) ≡ (if b then o else then_option l (λ p. p))
first_is true o l = refl
first_is false o l = refl

-- one more variable is looked at
pub var_more : (xs : List Bound) (d : Bound) (i x : ℕ) → i < length xs → d ≡ get_or xs i d
    → var_value (vars_view (take (i + 1) xs)) x ≡ (if d.0.0 == x then option_map value_view d.1 else var_value (vars_view (take i xs)) x)
var_more xs d i x h at =
    ap (λ l. var_value (vars_view l) x) (take_more xs i d h) ∙ ap (λ e. var_value (vars_view (take i xs ++ e ∷ [])) x) (sym at)
    ∙ ap (λ l. var_value l x) (onto_push (take i xs) d [])
    ∙ first_is (d.0.0 == x) (option_map value_view d.1) (look (λ k. k == x) (vars_view (take i xs)))

-- one more variable is copied
pub copy_more : (old new xs : List Bound) (d : Bound) (o : Option Value) (i : ℕ) → i < length xs → d ≡ get_or xs i d → new ≡ old ++ (d.0, o) ∷ [] → option_map value_view o ≡ option_map value_view d.1
    → vars_view old ≡ vars_view (take i xs) → vars_view new ≡ vars_view (take (i + 1) xs)
copy_more old new xs d o i h at is same inv =
    pushed old new d.0 o is ∙ ap (λ w. (d.0.0, w) ∷ vars_view old) same ∙ ap (λ l. (d.0.0, option_map value_view d.1) ∷ l) inv
    ∙ sym (ap vars_view (take_more xs i d h) ∙ ap (λ e. vars_view (take i xs ++ e ∷ [])) (sym at) ∙ onto_push (take i xs) d [])

pub copy_done : (copy xs : List Bound) (i : ℕ) → length xs ≤ i → vars_view copy ≡ vars_view (take i xs) → vars_view copy ≡ vars_view xs
copy_done copy xs i h inv = inv ∙ ap vars_view (take_all i xs h)

-- a value that is borrowed, where there is one
pub copied_value : (o : Option (Bor Value)) (p : Option Value) → option_copied o ≡ p → option_map (λ r. value_view r.now) o ≡ option_map value_view p
copied_value None p e = ap (option_map value_view) e
copied_value (Some r) p e = ap (option_map value_view) e
