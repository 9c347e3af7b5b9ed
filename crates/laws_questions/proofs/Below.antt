-- Where no question about a rule can be satisfied beside facts that exclude rules of greater priority, its condition is valid where none of
-- these matches.
use Rattle.std.proofs.Common.{◌≡◌, ◌⊎◌, ◌<◌, ℕ, zero, suc, Bool, true, false, not, ◌&&◌, ◌||◌, List, [], ◌∷◌, ◌++◌, map, length, Option, Some, None, slice_get, is_some, All, Contains, refl, sym, ap, ◌∙◌, subst, inl, inr, arith}
use Rattle.std.proofs.lemmas.Bool.{and_parts, and_from, false≢true, eqb-true}
use Rattle.std.proofs.lemmas.Grind.{common_steps}
use Rattle.std.proofs.lemmas.List.{map-append}
use Rattle.std.proofs.lemmas.Option.{slice_get_within}
use Rattle.std.specs.Bool.{◌==◌}
use Rattle.model.specs.lists.Tables.{VariantEntry, TypeEntry, enum_type}
use Rattle.model.specs.rules.Program.{Program, arg_types}
use Rattle.model.specs.rules.Values.{is_truth_type, has_atoms, variant_types, struct_types, field_types}
use Rattle.model.specs.sites.Sites.{Constraint, is_variant, is_struct, is_bool, SetRule, SiteSet, SiteTerm, argument, variant_field, struct_field}
use Rattle.model.proofs.Elements.{In, contains_from_in, in_from_contains, none_some}
use Rattle.laws_sites.proofs.built.WellBuiltSets.{in_from_all}
use Rattle.laws_specs.specs.Words.{Denoted, a_truth, an_integer, a_word, variant_of, struct_of, DenotedList, no_denoted, denoted_and, denoted_list, is_plain}
use Rattle.laws_specs.specs.Specs.{Sort, Specs, sort_of, is_closed, Unknowns}
use Rattle.laws_specs.specs.Conditions.{ToldContent, told, Valuation, IsMetAs, is_told_apart, is_modelled_as, is_of_type, are_of_types, Condition, IsAssumed, IsShown}
use Rattle.laws_specs.specs.SetConditions.{set_condition, IsNoneAboveInSet}
use Rattle.model_questions.specs.Formulas.{Place, Fact, is_kind, Model, is_so, are_so, none_of, as_wide}
use Rattle.model_questions.specs.Forms.{Form, any_of}
use Rattle.model_questions.specs.Evaluated.{Known}
use Rattle.model_questions.specs.Steps.{Step, split_at, shown, type_at, told_form, steps_of}
use Rattle.model_questions.specs.Questions.{nothing_known, with_width, learned, each_of, unless_false, split_sort, at_each_width, truth_fact, fact_of, paths, questions, IsUnsatisfiable}
use Rattle.model_questions.proofs.FactsSo.{both_parts, none_so, none_from}
use Rattle.model_questions.proofs.Opening.{is_atom_of, IsOf, type_says, none_of_types, same_is}
use Rattle.model_questions.proofs.Shown.{steps_shown}
use Rattle.model_questions.proofs.Standing.{kind_in, model_of}
use Rattle.laws_questions.specs.BelowLaws.{none_before, is_last_of, stands_fact, if_had, variant_fact, field_fact, struct_fact, meets_fact, there_fact, met_fact, AreMetBy, ExcludesOne, BelowAskEnough}
use Rattle.laws_questions.proofs.Values.{value_at, coherent, values_formed}
use Rattle.laws_questions.proofs.SiteForms.{Is, AreDone, variant_typed, struct_typed, told_is}
use Rattle.laws_questions.proofs.Enough.{none_told, shown_is}

-- 1. questions beside facts that stand before all others
module _ (es : List Fact) where
  abbrev Beside : List (List Fact) → List (List Fact)
  Beside qs = map (λ q. q ++ es) qs

  each_beside : {X : Type 0} (g h : X → List (List Fact)) → ((x : X) → g x ≡ Beside (h x)) → (xs : List X) → each_of g xs ≡ Beside (each_of h xs)
  each_beside g h e [] = refl
  each_beside g h e (x ∷ xs) =
      ap (λ qs. qs ++ each_of g xs) (e x) ∙ ap (λ qs. Beside (h x) ++ qs) (each_beside g h e xs) ∙ sym (map-append (λ q. q ++ es) (h x) (each_of h xs))

  widths_beside : (o : Option Sort) (g h : ℕ → List (List Fact)) (qs rs : List (List Fact)) → ((w : ℕ) → g w ≡ Beside (h w)) → qs ≡ Beside rs → at_each_width o g qs ≡ Beside (at_each_width o h rs)
  widths_beside o g h qs rs e q = grind (arith, common_steps, each_beside)

  unless_beside : (f : Fact) (qs rs : List (List Fact)) → qs ≡ Beside rs → unless_false f qs ≡ Beside (unless_false f rs)
  unless_beside f qs rs e = grind (arith, common_steps)

  module _ (types : List TypeEntry) (specs : Specs) where
    paths_beside : (steps : List Step) (k : Known) (fs : List Fact) → paths types specs steps k (fs ++ es) ≡ Beside (paths types specs steps k fs)
    paths_beside [] k fs = refl
    paths_beside (split_at ty at ∷ rest) k fs =
        widths_beside (split_sort (slice_get types ty) (sort_of specs ty)) (λ w. paths types specs rest (with_width at w k) (as_wide at w ∷ (fs ++ es)))
        (λ w. paths types specs rest (with_width at w k) (as_wide at w ∷ fs)) (paths types specs rest k (fs ++ es)) (paths types specs rest k fs)
        (λ w. paths_beside rest (with_width at w k) (as_wide at w ∷ fs)) (paths_beside rest k fs)
    paths_beside (shown s ∷ rest) k fs =
        let g = fact_of types specs k (shown s) in ap (λ qs. (none_of g ∷ (fs ++ es)) ∷ qs) (paths_beside rest (learned g k) (g ∷ fs))
    paths_beside (s ∷ rest) k fs =
        let g = fact_of types specs k s in
        unless_beside g (paths types specs rest (learned g k) (g ∷ (fs ++ es))) (paths types specs rest (learned g k) (g ∷ fs)) (paths_beside rest (learned g k) (g ∷ fs))

-- 2. variants
less_or_same : (j n : ℕ) → j < suc n → (j < n) ⊎ (j ≡ n)
less_or_same zero zero lt = inr refl
less_or_same zero (suc n) lt = inl (omega arith)
less_or_same (suc j) zero lt = absurd (omega arith)
less_or_same (suc j) (suc n) lt = elim (less_or_same j n (omega arith)) [ inl a ↦ inl (omega arith) | inr e ↦ inr (ap suc e) ]

not_so : (b : Bool) → not b ≡ true → b ≡ true → ⊥
not_so b e h = grind (arith, common_steps)

had_parts : (m : Model) (b : Bool) (g : Fact) → is_so m (if_had b g) ≡ true → (b ≡ true) × (is_so m g ≡ true)
had_parts m true g e = (refl, e)
had_parts m false g e = absurd (false≢true e)

some_of : {X : Type 0} (o : Option X) → is_some o ≡ true → (x : X) × (o ≡ Some x)
some_of (Some x) e = (x, refl)
some_of None e = absurd (false≢true e)

type_there : (o : Option (List ℕ)) (i ty : ℕ) → type_at o i ≡ Some ty → (tys : List ℕ) × (o ≡ Some tys) × (slice_get tys i ≡ Some ty)
type_there (Some tys) i ty e = (tys, refl, e)
type_there None i ty e = absurd (none_some ty e)

closed_if : (is_extern closed : Bool) → is_extern ≡ true → (not is_extern || closed) ≡ true → closed ≡ true
closed_if is_extern closed e h = grind (arith, common_steps)

-- no value is an atom of a sort without words
none_closed : (s : Option Sort) (x : Denoted) → is_closed s ≡ true → is_modelled_as s x ≡ true → ⊥
none_closed s x e h = grind (arith, common_steps)

module _ (types : List TypeEntry) (specs : Specs) where
  -- fields are there where their types are
  typed_there : (tys : List ℕ) (xs : DenotedList) → are_of_types types specs (Some tys) xs ≡ true → (i ty : ℕ) → slice_get tys i ≡ Some ty → (x : Denoted) × (slice_get (denoted_list xs) i ≡ Some x)
  typed_there (t ∷ tys) (denoted_and y ys) h (suc i) ty e = typed_there tys ys (and_parts (is_of_type types specs t y) (are_of_types types specs (Some tys) ys) h).1 i ty e
  typed_there (t ∷ tys) (denoted_and y ys) h zero ty e = (y, refl)
  typed_there (t ∷ tys) no_denoted h i ty e = absurd (false≢true h)
  typed_there [] xs h i ty e = absurd (none_some ty e)

  module _ (ty : ℕ) where
    -- a type with variants that has atoms is extern, and its atoms have no parts
    atom_parts : (o : Option TypeEntry) (i : ℕ) (tys : List ℕ) (x : Denoted) → is_atom_of specs ty o x ≡ true → variant_types o i ≡ Some tys
        → (has_atoms o ≡ true) × (is_modelled_as (sort_of specs ty) x ≡ true) × (is_plain x ≡ true)
    atom_parts (Some (enum_type name id true is_nodebug (w ∷ ws) place)) i tys x h e = let q = and_parts (is_modelled_as (sort_of specs ty) x) (is_plain x) h in (refl, q.0, q.1)
    atom_parts (Some (enum_type name id false is_nodebug (w ∷ ws) place)) i tys x h e = absurd (false≢true h)
    atom_parts o i tys x h e = absurd (none_some tys e)

    plain_kind : (x : Denoted) (i : ℕ) → is_plain x ≡ true → kind_in x ≡ suc i → ⊥
    plain_kind x i h e = grind (arith, common_steps)

    abbrev IsThis : ℕ → Denoted → Type 0
    IsThis i x = (xs : DenotedList) × (x ≡ variant_of ty i xs)

    this_is : (s j i : ℕ) (xs : DenotedList) → s ≡ ty → j ≡ i → IsThis i (variant_of s j xs)
    this_is s j i xs e q = (xs, ap (λ z. variant_of z j xs) e ∙ ap (λ z. variant_of ty z xs) q)

    -- so where a variant's number stands, the variant does
    kind_made : (o : Option TypeEntry) (i : ℕ) (tys : List ℕ) (x : Denoted) → IsOf types specs ty o x → variant_types o i ≡ Some tys → kind_in x ≡ suc i → IsThis i x
    kind_made o i tys x (inl h) e q = absurd (plain_kind x i (atom_parts o i tys x h e).2 q)
    kind_made o i tys (variant_of s j xs) (inr h) e q = this_is s j i xs h.0 (let r : suc j ≡ suc i = q in omega arith)
    kind_made o i tys x (inr h) e q = absurd (let r : zero ≡ suc i = q in omega arith)

    -- a value that is made stands for one of the type's variants, by its number
    made_below : (name id : ℕ) (is_extern is_nodebug : Bool) (ws : List VariantEntry) (place : _) (j : ℕ) (xs : DenotedList)
        → are_of_types types specs (variant_types (Some (enum_type name id is_extern is_nodebug ws place)) j) xs ≡ true → j < length ws
    made_below name id is_extern is_nodebug ws place j xs h = by (slice_get ws j) refl h
      where
        by : (o : Option VariantEntry) → slice_get ws j ≡ o → are_of_types types specs (elim o [ None ↦ None | Some v ↦ Some (field_types v.fields) ]) xs ≡ true → j < length ws
        by None e g = absurd (none_of_types types specs xs g)
        by (Some w) e g = slice_get_within ws j w e

    -- and so does the last one of a type without atoms where none before it does
    last_made : (o : Option TypeEntry) (i : ℕ) (tys : List ℕ) (x : Denoted) → IsOf types specs ty o x → variant_types o i ≡ Some tys → is_last_of o (is_closed (sort_of specs ty)) i ≡ true
        → ((j : ℕ) → j < i → kind_in x ≡ suc j → ⊥) → IsThis i x
    last_made (Some (enum_type name id is_extern is_nodebug ws place)) i tys (variant_of s j xs) (inr h) e last none =
        let lt = made_below name id is_extern is_nodebug ws place j xs h.1 in
        let size : suc i ≡ length ws = eqb-true (suc i) (length ws) (and_parts (suc i == length ws) (not is_extern || is_closed (sort_of specs ty)) last).0 in
        elim (less_or_same j i (subst (λ z. j < z) (sym size) lt)) [ inl less ↦ absurd (none j less refl) | inr same ↦ this_is s j i xs h.0 same ]
    last_made (Some (enum_type name id is_extern is_nodebug ws place)) i tys (struct_of s xs) (inr h) e last none = absurd (none_of_types types specs xs h.1)
    last_made (Some (enum_type name id is_extern is_nodebug ws place)) i tys (a_truth b) (inr h) e last none = absurd h
    last_made (Some (enum_type name id is_extern is_nodebug ws place)) i tys (an_integer z) (inr h) e last none = absurd h
    last_made (Some (enum_type name id is_extern is_nodebug ws place)) i tys (a_word w n) (inr h) e last none = absurd h
    last_made (Some (enum_type name id is_extern is_nodebug ws place)) i tys x (inl h) e last none =
        let q = atom_parts (Some (enum_type name id is_extern is_nodebug ws place)) i tys x h e in
        let closed = closed_if is_extern (is_closed (sort_of specs ty)) q.0 (and_parts (suc i == length ws) (not is_extern || is_closed (sort_of specs ty)) last).1 in
        absurd (none_closed (sort_of specs ty) x closed q.1)
    last_made o i tys x h e last none = absurd (none_some tys e)

  module _ (vs : Place → Denoted) (u : Unknowns) where
    abbrev m : Model
    m = model_of vs u

    none_before_so : (at : Place) (i : ℕ) → is_so m (none_before at i) ≡ true → (j : ℕ) → j < i → kind_in (vs at) ≡ suc j → ⊥
    none_before_so at zero h j lt e = absurd (omega arith)
    none_before_so at (suc i) h j lt e =
        let parts = both_parts m (none_before at i) (none_of (is_kind at i)) h in
        elim (less_or_same j i lt) [
          | inl less ↦ none_before_so at i parts.0 j less e
          | inr same ↦ not_so (kind_in (vs at) == suc i) (sym (none_so m (is_kind at i)) ∙ parts.1) (ap (λ k. k == suc i) (e ∙ ap suc same) ∙ same_is (suc i))
        ]

    stands_so : (ty : ℕ) (at : Place) (i : ℕ) (tys : List ℕ) → is_of_type types specs ty (vs at) ≡ true → variant_types (slice_get types ty) i ≡ Some tys
        → is_so m (stands_fact (is_last_of (slice_get types ty) (is_closed (sort_of specs ty)) i) at i) ≡ true → IsThis ty i (vs at)
    stands_so ty at i tys fits e h = by (is_last_of (slice_get types ty) (is_closed (sort_of specs ty)) i) refl h
      where
        by : (b : Bool) → is_last_of (slice_get types ty) (is_closed (sort_of specs ty)) i ≡ b → is_so m (stands_fact b at i) ≡ true → IsThis ty i (vs at)
        by true q g = last_made ty (slice_get types ty) i tys (vs at) (type_says types specs ty (vs at) fits) e q (none_before_so at i g)
        by false q g = kind_made ty (slice_get types ty) i tys (vs at) (type_says types specs ty (vs at) fits) e (eqb-true (kind_in (vs at)) (suc i) g)

-- 3. sites that surely hold values, and constraints that these meet
told_too : (o : Option ToldContent) (x y : Denoted) → o ≡ Some (told x) → x ≡ y → o ≡ Some (told y)
told_too o x y e q = e ∙ ap (λ z. Some (told z)) q

-- values of the type of truths, and of a type of structs
truth_is : (types : List TypeEntry) (specs : Specs) (ty : ℕ) (o : Option TypeEntry) (x : Denoted) → is_truth_type o ≡ true → IsOf types specs ty o x → (b : Bool) × (x ≡ a_truth b)
truth_is types specs ty o x e h = grind (arith, common_steps, none_of_types)

struct_is : (types : List TypeEntry) (specs : Specs) (ty : ℕ) (o : Option TypeEntry) (x : Denoted) → is_some (struct_types o) ≡ true → IsOf types specs ty o x → (xs : DenotedList) × (x ≡ struct_of ty xs)
struct_is types specs ty o x e h = grind (arith, common_steps, none_of_types)

module _ (p : Program) (specs : Specs) (t : ℕ) (set : SiteSet) (r : SetRule) (args : DenotedList) (f : Valuation) where
  abbrev c : Condition
  c = set_condition t set r

  abbrev vs : Place → Denoted
  vs = value_at args f

  -- the model that the values here give
  abbrev here : Model
  here = model_of vs specs.unknowns

  module _ (a : IsAssumed p specs c args f) (n : IsNoneAboveInSet specs t set r args f) where
    none_done : AreDone p specs c args f a []
    none_done w i = absurd i

    field_there : (g : Form) (x : Denoted) (variant i : ℕ) → Is p specs c args f a g x → is_so here (field_fact p specs variant i g) ≡ true
        → (ty : ℕ) × (xs : DenotedList) × (y : Denoted) × (x ≡ variant_of ty variant xs) × (slice_get (denoted_list xs) i ≡ Some y)
    field_there (any_of ty at) x variant i is h =
        let parts = had_parts here (is_some (type_at (variant_types (slice_get p.types ty) variant) i)) (variant_fact p specs ty at variant) h in
        let some = some_of (type_at (variant_types (slice_get p.types ty) variant) i) parts.0 in
        let tys = type_there (variant_types (slice_get p.types ty) variant) i some.0 some.1 in
        let made = stands_so p.types specs vs specs.unknowns ty at variant tys.0 is.1 tys.1 parts.1 in
        let typed = variant_typed p.types specs ty (slice_get p.types ty) ty variant made.0 tys.0
        (subst (λ z. IsOf p.types specs ty (slice_get p.types ty) z) made.1 (type_says p.types specs ty (vs at) is.1)) tys.1 in
        let y = typed_there p.types specs tys.0 made.0 typed i some.0 tys.2 in
        (ty, made.0, y.0, sym is.0 ∙ made.1, y.1)
    field_there g x variant i is h = absurd (false≢true h)

    struct_field_there : (g : Form) (x : Denoted) (i : ℕ) → Is p specs c args f a g x → is_so here (struct_fact p specs i g) ≡ true
        → (ty : ℕ) × (xs : DenotedList) × (y : Denoted) × (x ≡ struct_of ty xs) × (slice_get (denoted_list xs) i ≡ Some y)
    struct_field_there (any_of ty at) x i is h =
        let some = some_of (type_at (struct_types (slice_get p.types ty)) i) h in
        let tys = type_there (struct_types (slice_get p.types ty)) i some.0 some.1 in
        let says = type_says p.types specs ty (vs at) is.1 in
        let made = struct_is p.types specs ty (slice_get p.types ty) (vs at) (ap is_some tys.1) says in
        let typed = struct_typed p.types specs ty (slice_get p.types ty) ty made.0 tys.0 (subst (λ z. IsOf p.types specs ty (slice_get p.types ty) z) made.1 says) tys.1 in
        let y = typed_there p.types specs tys.0 made.0 typed i some.0 tys.2 in
        (ty, made.0, y.0, sym is.0 ∙ made.1, y.1)
    struct_field_there g x i is h = absurd (false≢true h)

    there_is : (s : SiteTerm) → is_so here (there_fact p specs c s) ≡ true → (x : Denoted) × (f s ≡ Some (told x))
    there_is (argument i) h =
        let ty = some_of (slice_get (arg_types p t) i) h in
        let x = typed_there p.types specs (arg_types p t) args a.arguments i ty.0 ty.1 in
        (x.0, n.there (argument i) (told x.0) refl (record { part = x.0; there = x.1; held = refl }))
    there_is (variant_field s variant i) h =
        let parts = both_parts here (there_fact p specs c s) (field_fact p specs variant i (told_form p specs c s)) h in
        let x = there_is s parts.0 in
        let k = field_there (told_form p specs c s) x.0 variant i (told_is p specs c args f a [] none_done s x.0 x.1) parts.1 in
        (k.2, n.there (variant_field s variant i) (told k.2) refl (k.0, k.1, told_too (f s) x.0 (variant_of k.0 variant k.1) x.1 k.3, record { part = k.2; there = k.4; held = refl }))
    there_is (struct_field s i) h =
        let parts = both_parts here (there_fact p specs c s) (struct_fact p specs i (told_form p specs c s)) h in
        let x = there_is s parts.0 in
        let k = struct_field_there (told_form p specs c s) x.0 i (told_is p specs c args f a [] none_done s x.0 x.1) parts.1 in
        (k.2, n.there (struct_field s i) (told k.2) refl (k.0, k.1, told_too (f s) x.0 (struct_of k.0 k.1) x.1 k.3, record { part = k.2; there = k.4; held = refl }))
    there_is s h = absurd (false≢true h)

    meets_is : (s : SiteTerm) (g : Form) (k : Constraint) (x : Denoted) → f s ≡ Some (told x) → Is p specs c args f a g x → is_so here (meets_fact p specs g k) ≡ true
        → (is_told_apart k ≡ true) × IsMetAs specs f s k
    meets_is s (any_of u at) (is_variant ty variant fields) x e is h =
        let parts = had_parts here ((u == ty) && is_some (variant_types (slice_get p.types ty) variant)) (variant_fact p specs ty at variant) h in
        let q = and_parts (u == ty) (is_some (variant_types (slice_get p.types ty) variant)) parts.0 in
        let tys = some_of (variant_types (slice_get p.types ty) variant) q.1 in
        let made = stands_so p.types specs vs specs.unknowns ty at variant tys.0 (subst (λ z. is_of_type p.types specs z (vs at) ≡ true) (eqb-true u ty q.0) is.1) tys.1 parts.1 in
        (refl, (made.0, told_too (f s) x (variant_of ty variant made.0) e (sym is.0 ∙ made.1)))
    meets_is s (any_of u at) (is_struct ty fields) x e is h =
        let q = and_parts (u == ty) (is_some (struct_types (slice_get p.types ty))) h in
        let fits : is_of_type p.types specs ty (vs at) ≡ true = subst (λ z. is_of_type p.types specs z (vs at) ≡ true) (eqb-true u ty q.0) is.1 in
        let made = struct_is p.types specs ty (slice_get p.types ty) (vs at) q.1 (type_says p.types specs ty (vs at) fits) in
        (refl, (made.0, told_too (f s) x (struct_of ty made.0) e (sym is.0 ∙ made.1)))
    meets_is s (any_of u at) (is_bool b ty) x e is h =
        let parts = had_parts here (is_truth_type (slice_get p.types u)) (truth_fact b (any_of u at)) h in
        let k = truth_is p.types specs u (slice_get p.types u) (vs at) parts.0 (type_says p.types specs u (vs at) is.1) in
        (refl, told_too (f s) x (a_truth b) e (sym is.0 ∙ k.1 ∙ ap a_truth (by b k.0 k.1 parts.1)))
      where
        by : (b d : Bool) → vs at ≡ a_truth d → is_so here (truth_fact b (any_of u at)) ≡ true → d ≡ b
        by b d q g = grind (arith, common_steps)
    meets_is s g k x e is h = absurd (false≢true h)

    met_is : (s : SiteTerm) (k : Constraint) → is_so here (met_fact p specs c s k) ≡ true → (is_told_apart k ≡ true) × IsMetAs specs f s k
    met_is s k h =
        let parts = both_parts here (there_fact p specs c s) (meets_fact p specs (told_form p specs c s) k) h in
        let x = there_is s parts.0 in
        meets_is s (told_form p specs c s) k x.0 x.1 (told_is p specs c args f a [] none_done s x.0 x.1) parts.1

    -- 4. facts that exclude rules
    -- each constraint is the rule's own, or is met and told apart
    each_met : (ds : List (SiteTerm × Constraint)) (g : Fact) → AreMetBy p specs c ds g → is_so here g ≡ true → (s : SiteTerm) (k : Constraint) → In ds (s, k)
        → Contains c.constraints (s, k) ⊎ ((is_told_apart k ≡ true) × IsMetAs specs f s k)
    each_met [] g h so s k i = absurd i
    each_met (d ∷ ds) g (inl h) so s k (inl e) = inl (subst (λ z. Contains c.constraints z) e h.0)
    each_met (d ∷ ds) g (inl h) so s k (inr i) = each_met ds g h.1 so s k i
    each_met (d ∷ ds) g (inr h) so s k i =
        let parts = both_parts here (met_fact p specs c d.0 d.1) h.0 (sym (ap (is_so here) h.2) ∙ so) in
        elim i [
          | inl e ↦ inr (subst (λ (z : SiteTerm × Constraint). (is_told_apart z.1 ≡ true) × IsMetAs specs f z.0 z.1) e (met_is d.0 d.1 parts.0))
          | inr j ↦ each_met ds h.0 h.1 parts.1 s k j
        ]

    excluded_so : (g : Fact) → ExcludesOne p specs t set r g → is_so here g ≡ true
    excluded_so g x = ap (is_so here) x.excludes ∙ by (is_so here x.met) refl
      where
        by : (b : Bool) → is_so here x.met ≡ b → is_so here (none_of x.met) ≡ true
        by false e = none_from here x.met e
        by true e =
            absurd (n.none x.rule x.above
            (λ s k i. elim (each_met (set_condition t set x.rule).constraints x.met x.meets e s k (in_from_contains (set_condition t set x.rule).constraints (s, k) i)) [
              | inl own ↦ n.own s k own
              | inr q ↦ n.decided x.rule s k x.above i q.0 q.1
            ])
            (λ s u i. absurd (x.without_equalities s u i)))

    all_excluded : (gs : List Fact) → ((g : Fact) → In gs g → ExcludesOne p specs t set r g) → are_so here gs ≡ true
    all_excluded [] h = refl
    all_excluded (g ∷ gs) h = and_from (is_so here g) (are_so here gs) (excluded_so g (h g (inl refl))) (all_excluded gs (λ y i. h y (inr i)))

    below_shown : (plan : Place → Bool) (es : List Fact) → All (ExcludesOne p specs t set r) es → ((q : List Fact) → Contains (map (λ q. q ++ es) (questions p specs c plan)) q → IsUnsatisfiable specs q)
        → IsShown p specs c args f
    below_shown plan es excluded refuted =
        shown_is p specs c args f a plan
        (steps_shown p.types specs vs specs.unknowns (coherent args f) (values_formed args f a.formed_args a.formed) a.unknowns (steps_of p specs c plan) nothing_known es (none_told p specs c args f a)
        (all_excluded es (in_from_all (ExcludesOne p specs t set r) es excluded))
        (λ q i. refuted q (contains_from_in (map (λ q. q ++ es) (questions p specs c plan)) q (subst (λ qs. In qs q) (paths_beside es p.types specs (steps_of p specs c plan) nothing_known []) i))))

pub below_ask_enough_lem : BelowAskEnough
below_ask_enough_lem p specs t set r plan es excluded refuted args f a n = below_shown p specs t set r args f a n plan es excluded refuted
