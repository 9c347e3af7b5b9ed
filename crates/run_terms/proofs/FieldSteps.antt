-- Fields, one after another.
use Rattle.std.proofs.Common.{◌≡◌, ℕ, zero, suc, ◌+◌, ◌<◌, ◌≤◌, List, [], ◌∷◌, ◌++◌, length, get_or, drop, Option, Some, None, slice_get, if◌then◌else◌, ◌==◌, ◌&&◌, true, arith, Vec, refl, sym, ap, ◌∙◌, append_assoc}
use Rattle.std.proofs.lemmas.List.{at_drop_more, at_drop_all, append-nil, map-append, drop_more}
use Rattle.model.specs.rules.Values as Values
use Rattle.model.specs.rules.Values.{listed}
use Rattle.model.specs.rules.Meaning as M
use Rattle.model.specs.trees.Run.{Env, all_one, bind_fields, value_fields, content_fields}
use Rattle.model.specs.sites.Sites.{Constraint, is_variant, is_struct, is_bool, is_int, is_prim, is_present}
use Rattle.model.specs.rules.Meaning.{Meaning}
use Rattle.run_terms.specs.declared.values.Content as C
use Rattle.run_terms.specs.declared.values.Content.{Content}
use Rattle.std.specs.declared.alloc.Global.{Global}
use Rattle.core_types.specs.declared.ids.TypeId.{TypeId}
use Rattle.core_types.specs.declared.ids.VariantId.{VariantId}
use Rattle.run_terms.specs.declared.values.Value as V
use Rattle.run_terms.specs.declared.values.Value.{Value}
use Rattle.run_terms.proofs.ValueSteps.{view-Struct, view-Variant}
use Rattle.run_terms.specs.RunViews.{content_list, with_field}
use Rattle.run_terms.specs.ValueViews.{value_view, value_views, content_view, content_views}

-- 1. each value as a content
abbrev ones : List Value → List M.Content
ones vs = all_one (listed (value_views vs))

pub ones_start : (values : List Value) (made : List Content) → made ≡ [] → content_list made ++ ones values ≡ ones values
ones_start values made is = ap (λ l. content_list l ++ ones values) is

pub ones_more : (out new : List Content) (values : List Value) (v x : Value) (i : ℕ) (whole : List M.Content) → i < length values → x ≡ get_or values i x → value_view v ≡ value_view x → new ≡ out ++ C.One v ∷ []
    → content_list out ++ ones (drop i values) ≡ whole → content_list new ++ ones (drop (i + 1) values) ≡ whole
ones_more out new values v x i whole h at same is inv =
    let a : ones (drop i values) ≡ M.one (value_view (get_or values i x)) ∷ ones (drop (i + 1) values) = at_drop_more ones values i x h in
    let b : M.one (value_view (get_or values i x)) ≡ M.one (value_view v) = ap (λ y. M.one (value_view y)) (sym at) ∙ ap M.one (sym same) in
    ap (λ l. content_list l ++ ones (drop (i + 1) values)) is
    ∙ ap (λ l. l ++ ones (drop (i + 1) values)) (map-append content_view out (C.One v ∷ []))
    ∙ append_assoc (content_list out) (M.one (value_view v) ∷ []) (ones (drop (i + 1) values))
    ∙ ap (λ l. content_list out ++ l) (ap (λ y. y ∷ ones (drop (i + 1) values)) (sym b) ∙ sym a) ∙ inv

pub ones_done : (out : List Content) (values : List Value) (i : ℕ) (whole : List M.Content) → length values ≤ i → content_list out ++ ones (drop i values) ≡ whole → content_list out ≡ whole
ones_done out values i whole h inv = sym (append-nil (content_list out)) ∙ ap (λ l. content_list out ++ l) (sym (at_drop_all ones values i h)) ∙ inv

-- 2. contents of a list
pub contents_listed : (cs : List Content) → M.contents (content_views cs) ≡ content_list cs
contents_listed [] = refl
contents_listed (c ∷ cs) = ap (λ l. content_view c ∷ l) (contents_listed cs)

-- 3. the sites of fields
dropped : (cs : List Content) (i : ℕ) (c : Content) → slice_get cs i ≡ Some c → drop i cs ≡ c ∷ drop (i + 1) cs
dropped [] zero c e = absurd (cc)
dropped [] (suc i) c e = absurd (cc)
dropped (d ∷ cs) zero c e = let a : d ≡ c = cc in ap (λ x. x ∷ cs) a
dropped (d ∷ cs) (suc i) c e = let m : suc i + 1 ≡ suc (i + 1) = omega arith in dropped cs i c e ∙ ap (λ k. c ∷ drop k (d ∷ cs)) (sym m)

one_more : (f : Option ℕ) (fs : List (Option ℕ)) (c : M.Content) (cs : List M.Content) (env : Env) → bind_fields (f ∷ fs) (c ∷ cs) env ≡ bind_fields fs cs (with_field f c env)
one_more None fs c cs env = refl
one_more (Some s) fs c cs env = refl

pub field_more : (fs : List (Option ℕ)) (cs : List Content) (f : Option ℕ) (c : Content) (i : ℕ) (env env' : Env) (whole : Option Env) → i < length fs → f ≡ get_or fs i f → slice_get cs i ≡ Some c → env' ≡ with_field f (content_view c) env
    → bind_fields (drop i fs) (content_list (drop i cs)) env ≡ whole → bind_fields (drop (i + 1) fs) (content_list (drop (i + 1) cs)) env' ≡ whole
field_more fs cs f c i env env' whole h at there is inv =
    ap (bind_fields (drop (i + 1) fs) (content_list (drop (i + 1) cs))) is
    ∙ sym (one_more f (drop (i + 1) fs) (content_view c) (content_list (drop (i + 1) cs)) env)
    ∙ ap (λ g. bind_fields (g ∷ drop (i + 1) fs) (content_view c ∷ content_list (drop (i + 1) cs)) env) at
    ∙ ap (λ l. bind_fields l (content_view c ∷ content_list (drop (i + 1) cs)) env) (sym (drop_more fs i f h))
    ∙ ap (λ l. bind_fields (drop i fs) (content_list l) env) (sym (dropped cs i c there)) ∙ inv

none_left : (f : Option ℕ) (fs : List (Option ℕ)) (env : Env) → bind_fields (f ∷ fs) [] env ≡ None
none_left None fs env = refl
none_left (Some s) fs env = refl

past : (cs : List Content) (i : ℕ) → length cs ≤ i → content_list (drop i cs) ≡ []
past cs i h = at_drop_all content_list cs i h

pub field_missing : (fs : List (Option ℕ)) (cs : List Content) (f : Option ℕ) (i : ℕ) (env : Env) (whole : Option Env) → i < length fs → length cs ≤ i
    → bind_fields (drop i fs) (content_list (drop i cs)) env ≡ whole → None ≡ whole
field_missing fs cs f i env whole h none inv =
    sym (none_left (get_or fs i f) (drop (i + 1) fs) env)
    ∙ ap (λ l. bind_fields l [] env) (sym (drop_more fs i f h)) ∙ ap (λ l. bind_fields (drop i fs) l env) (sym (past cs i none)) ∙ inv

-- 4. what a content brings, by its form
pub one_brings : (m : Meaning) (constraint : Constraint) (v : Values.Value) → content_fields m constraint (M.one v) ≡ value_fields m constraint v
one_brings m (is_variant ty variant fields) v = refl
one_brings m (is_struct ty fields) v = refl
one_brings m (is_bool b ty) v = refl
one_brings m (is_int z ty) v = refl
one_brings m (is_prim name) v = refl
one_brings m is_present v = refl

pub parts_bring_none : (m : Meaning) (constraint : Constraint) (vs : Values.Values) → content_fields m constraint (M.parts vs) ≡ None
parts_bring_none m (is_variant ty variant fields) vs = refl
parts_bring_none m (is_struct ty fields) vs = refl
parts_bring_none m (is_bool b ty) vs = refl
parts_bring_none m (is_int z ty) vs = refl
parts_bring_none m (is_prim name) vs = refl
parts_bring_none m is_present vs = refl

pub nothing_brings_none : (m : Meaning) (constraint : Constraint) → content_fields m constraint M.nothing ≡ None
nothing_brings_none m (is_variant ty variant fields) = refl
nothing_brings_none m (is_struct ty fields) = refl
nothing_brings_none m (is_bool b ty) = refl
nothing_brings_none m (is_int z ty) = refl
nothing_brings_none m (is_prim name) = refl
nothing_brings_none m is_present = refl

pub many_bring_none : (m : Meaning) (constraint : Constraint) (cs : M.Contents) → content_fields m constraint (M.many cs) ≡ None
many_bring_none m (is_variant ty variant fields) cs = refl
many_bring_none m (is_struct ty fields) cs = refl
many_bring_none m (is_bool b ty) cs = refl
many_bring_none m (is_int z ty) cs = refl
many_bring_none m (is_prim name) cs = refl
many_bring_none m is_present cs = refl

pub ruleset brought = (one_brings, parts_bring_none, nothing_brings_none, many_bring_none)

-- 5. what a variant or a struct brings
pub struct_brings : (v : Value) (s t : TypeId) (xs : Vec Value Global) (cs : List M.Content) → v ≡ V.Struct s xs → (s.0 == t.0) ≡ true → cs ≡ ones xs.items
    → (m : Meaning) (n : ℕ) → Some cs ≡ value_fields m (is_struct t.0 n) (value_view v)
struct_brings v s t xs cs e same is m n =
    ap Some is ∙ ap (λ b. if b then Some (ones xs.items) else None) (sym same) ∙ sym (ap (value_fields m (is_struct t.0 n)) (ap value_view e ∙ view-Struct s xs))

pub variant_brings : (v : Value) (s t : TypeId) (i j : VariantId) (xs : Vec Value Global) (cs : List M.Content) → v ≡ V.Variant s i xs → ((s.0 == t.0) && (i.0 == j.0)) ≡ true → cs ≡ ones xs.items
    → (m : Meaning) (n : ℕ) → Some cs ≡ value_fields m (is_variant t.0 j.0 n) (value_view v)
variant_brings v s t i j xs cs e same is m n =
    ap Some is ∙ ap (λ b. if b then Some (ones xs.items) else None) (sym same) ∙ sym (ap (value_fields m (is_variant t.0 j.0 n)) (ap value_view e ∙ view-Variant s i xs))
