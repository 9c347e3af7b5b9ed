-- What the view of a value is, where its parts lie in a `Vec`.
use Rattle.std.proofs.Common.{◌≡◌, ◌==◌, ℕ, zero, suc, Bool, true, false, ◌&&◌, sym, slice_get, is_none, ◌+◌, ◌<◌, ◌≤◌, List, [], ◌∷◌, ◌++◌, length, get_or, drop, refl, ap, ◌∙◌, Vec}
use Rattle.std.proofs.lemmas.Bool.{false≢true}
use Rattle.std.proofs.lemmas.List.{at_drop_more, at_drop_all}
use Rattle.std.specs.declared.alloc.Global.{Global}
use Rattle.core_types.specs.declared.ids.TypeId.{TypeId}
use Rattle.core_types.specs.declared.ids.VariantId.{VariantId}
use Rattle.run_terms.specs.declared.values.Value as V
use Rattle.run_terms.specs.declared.values.Value.{Value, Row_of-Value, end_of-Value, more_of-Value, items-the_row-Value}
use Rattle.run_terms.specs.declared.values.Value.TheBlock.{hidden-the_row-Value-0, items_hidden-the_row-Value-0}
use Rattle.model.specs.rules.Values.{value_eq, values_eq, Values, no_value, value_and, of_variant, of_struct}
use Rattle.run_terms.specs.ValueViews.{value_view, row_values, value_views}

row_values-items : {m : _} (r : Row_of-Value m) → row_values r ≡ value_views (items-the_row-Value m r)
row_values-items end_of-Value = refl
row_values-items (more_of-Value v vs) = ap (value_and (value_view v)) (row_values-items vs)

pub row_values-hidden : (v : Vec Value Global) → row_values (hidden-the_row-Value-0 v) ≡ value_views v.items
row_values-hidden v = row_values-items (hidden-the_row-Value-0 v) ∙ ap value_views (items_hidden-the_row-Value-0 v)

pub view-Variant : (ty : TypeId) (variant : VariantId) (v : Vec Value Global) → value_view (V.Variant ty variant v) ≡ of_variant ty.0 variant.0 (value_views v.items)
view-Variant ty variant v = ap (of_variant ty.0 variant.0) (row_values-hidden v)

pub view-Struct : (ty : TypeId) (v : Vec Value Global) → value_view (V.Struct ty v) ≡ of_struct ty.0 (value_views v.items)
view-Struct ty v = ap (of_struct ty.0) (row_values-hidden v)

pub value_views_drop : (xs : List Value) (i : ℕ) (d : Value) → i < length xs → value_views (drop i xs) ≡ value_and (value_view (get_or xs i d)) (value_views (drop (i + 1) xs))
value_views_drop xs i d h = at_drop_more value_views xs i d h

-- values after others
unfoldable pub before : List Value → Values → Values
before [] rs = rs
before (v ∷ vs) rs = value_and (value_view v) (before vs rs)

pub before-push : (vs : List Value) (v : Value) (rs : Values) → before (vs ++ v ∷ []) rs ≡ before vs (value_and (value_view v) rs)
unfolding before
before-push [] v rs = refl
before-push (w ∷ vs) v rs = ap (value_and (value_view w)) (before-push vs v rs)

pub before-none : (vs : List Value) → before vs no_value ≡ value_views vs
unfolding before
before-none [] = refl
before-none (v ∷ vs) = ap (value_and (value_view v)) (before-none vs)

pub before-nil : (rs : Values) → before [] rs ≡ rs
unfolding before
before-nil rs = refl

-- a step of a loop that clones each value
pub step_before : (out new parts : List Value) (w x : Value) (i : ℕ) → i < length parts → x ≡ get_or parts i x → value_view w ≡ value_view x → new ≡ out ++ w ∷ [] → before out (value_views (drop i parts)) ≡ value_views parts → before new (value_views (drop (i + 1) parts)) ≡ value_views parts
step_before out new parts w x i h at made is inv =
    let a = before-push out w (value_views (drop (i + 1) parts)) in
    let d = value_views_drop parts i x h in
    cc

pub end_before : (out parts : List Value) (i : ℕ) → length parts ≤ i → before out (value_views (drop i parts)) ≡ value_views parts → value_views out ≡ value_views parts
end_before out parts i h inv =
    let a = at_drop_all value_views parts i h in
    let b = before-none out in
    cc

-- equal lists of values: a step and the end
three : (p q r : Bool) → (p && q) ≡ true → r ≡ (p && q && r)
three true true r e = refl
three true false r e = absurd (false≢true e)
three false q r e = absurd (false≢true e)

two : (p r : Bool) → p ≡ true → r ≡ (p && r)
two true r e = refl
two false r e = absurd (false≢true e)

pub same_of_variants : (a b : Value) (s t : TypeId) (i j : VariantId) (xs ys : Vec Value Global) (r : Bool) → a ≡ V.Variant s i xs → b ≡ V.Variant t j ys → ((s.0 == t.0) && (i.0 == j.0)) ≡ true → r ≡ values_eq (value_views xs.items) (value_views ys.items) → r ≡ value_eq (value_view a) (value_view b)
same_of_variants a b s t i j xs ys r ea eb e h =
    let u : value_view a ≡ of_variant s.0 i.0 (value_views xs.items) = ap value_view ea ∙ view-Variant s i xs in
    let w : value_view b ≡ of_variant t.0 j.0 (value_views ys.items) = ap value_view eb ∙ view-Variant t j ys in
    h ∙ three (s.0 == t.0) (i.0 == j.0) (values_eq (value_views xs.items) (value_views ys.items)) e
    ∙ sym (ap (λ x. value_eq x (value_view b)) u ∙ ap (λ y. value_eq (of_variant s.0 i.0 (value_views xs.items)) y) w)

pub same_of_structs : (a b : Value) (s t : TypeId) (xs ys : Vec Value Global) (r : Bool) → a ≡ V.Struct s xs → b ≡ V.Struct t ys → (s.0 == t.0) ≡ true → r ≡ values_eq (value_views xs.items) (value_views ys.items) → r ≡ value_eq (value_view a) (value_view b)
same_of_structs a b s t xs ys r ea eb e h =
    let u : value_view a ≡ of_struct s.0 (value_views xs.items) = ap value_view ea ∙ view-Struct s xs in
    let w : value_view b ≡ of_struct t.0 (value_views ys.items) = ap value_view eb ∙ view-Struct t ys in
    h ∙ two (s.0 == t.0) (values_eq (value_views xs.items) (value_views ys.items)) e
    ∙ sym (ap (λ x. value_eq x (value_view b)) u ∙ ap (λ y. value_eq (of_struct s.0 (value_views xs.items)) y) w)

pub ruleset value_steps = (row_values-hidden, view-Variant, view-Struct, before-nil)
