-- Where no question can be satisfied, what the steps show holds: values that break it would satisfy a question.
use Rattle.std.proofs.Common.{◌≡◌, ℕ, ℤ, suc, Bool, true, false, List, [], ◌∷◌, Option, Some, None, slice_get, refl, sym, ap, ◌∙◌, subst, inl, inr, arith}
use Rattle.std.proofs.lemmas.Grind.{common_steps}
use Rattle.std.specs.Bool.{◌==◌}
use Rattle.std.proofs.lemmas.Bool.{and_parts, and_from, false≢true, eqb-true}
use Rattle.std.proofs.lemmas.Bool.Decides.{Decides-int_eq}
use Rattle.model.specs.lists.Tables.{TypeEntry}
use Rattle.model.specs.sites.Sites.{Constraint, is_variant, is_bool, is_int, is_prim}
use Rattle.model.specs.visits.Demands.{site_term_eq}
use Rattle.model.proofs.Elements.{In, in_left, in_right, some_is, none_some}
use Rattle.model.proofs.SameSites.{term_means, number_same, beq_same}
use Rattle.laws_specs.specs.Words.{Denoted, a_truth, variant_of, struct_of, DenotedList, no_denoted, denoted_and, denoted_eq, denoted_list_eq, is_formed, Operator, equals, applied_to}
use Rattle.laws_specs.specs.Specs.{Sort, words_among, is_of_sort, Specs, sort_of, constant_of, literal_of, Unknowns, AreUnknownsSorted, says}
use Rattle.laws_specs.specs.Conditions.{is_of_type, is_modelled_as}
use Rattle.model_questions.specs.Formulas.{Place, argument_at, site_at, output_at, variant_field_at, struct_field_at, place_eq, Fact, as_wide, fact_by, both_facts, Operands, Model, is_so, are_so, one_of, none_of}
use Rattle.model_questions.specs.Forms.{Form, no_form, form_and, then_cases, surely, perhaps}
use Rattle.model_questions.specs.Evaluated.{Known, widths_of, fitted, opened_each}
use Rattle.model_questions.specs.Steps.{Said, Step, split_at, told_as, told_same, assumed, assumed_under, shown}
use Rattle.model_questions.specs.Questions.{with_width, with_integer, with_kind, equals_learned, learned, each_of, unless_false, split_sort, at_each_width, truth_fact, come_to, same_fact, same_if, told_fact, all_surely, fact_of, paths, IsModel, IsUnsatisfiable}
use Rattle.model_questions.proofs.FactsSo.{both_parts, one_left, one_right, none_from}
use Rattle.model_questions.proofs.Evaluating.{stands_if, FitsIf, opened_fitted_described, come_described, surely_said, perhaps_so}
use Rattle.model_questions.proofs.Opening.{IsOf, type_says, nothing_made, listed_width}
use Rattle.model_questions.proofs.Standing.{width_in, model_of, IsCoherent, AreKnown, stands, stand_each, written_stands, Fits, AllFit, written_fits, number_formed}

-- 1. places, and what is told of them
pub place_means : (a b : Place) → place_eq a b ≡ true → a ≡ b
place_means (argument_at i) (argument_at j) h = ap argument_at (eqb-true i j h)
place_means (site_at s) (site_at t) h = ap site_at (term_means s t h)
place_means (output_at s i) (output_at t j) h = grind (arith, common_steps, and_parts (site_term_eq s t) (i == j) h, term_means s t, eqb-true i j, and_parts, term_means, eqb-true)
place_means (variant_field_at a s v i) (variant_field_at b t w j) h = grind (arith, common_steps, place_means a b, and_parts, eqb-true)
place_means (struct_field_at a s i) (struct_field_at b t j) h = grind (arith, common_steps, place_means a b, and_parts, eqb-true)
place_means _ _ h = absurd (false≢true h)

module _ (m : Model) where
  width_more : (k : Known) (at : Place) (w : ℕ) → m.widths at ≡ w → AreKnown m k → AreKnown m (with_width at w k)
  width_more k at w e told = grind (arith, some_is, place_means)

  integer_more : (k : Known) (at : Place) (z : ℤ) → m.integers at ≡ z → AreKnown m k → AreKnown m (with_integer at z k)
  integer_more k at z e told = grind (arith, some_is, place_means)

  kind_more : (k : Known) (at : Place) (i : ℕ) → m.kinds at ≡ suc i → AreKnown m k → AreKnown m (with_kind at i k)
  kind_more k at i e told = grind (arith, some_is, place_means)

  equals_told : (o : Operator) (of : Operands) (k : Known) → is_so m (fact_by o of) ≡ true → AreKnown m k → AreKnown m (equals_learned o of k)
  equals_told o of k e told = grind (arith, common_steps, Decides-int_eq, integer_more)

  -- what is learned from a fact that is so
  learned_told : (f : Fact) (k : Known) → is_so m f ≡ true → AreKnown m k → AreKnown m (learned f k)
  learned_told (both_facts a b) k e told = let s = and_parts (is_so m a) (is_so m b) e in learned_told a (learned b k) s.0 (learned_told b k s.1 told)
  learned_told f k e told = grind (arith, common_steps, width_more, eqb-true, kind_more, equals_told)

in_each : {X Y : Type 0} (f : X → List Y) (xs : List X) (x : X) (y : Y) → In xs x → In (f x) y → In (each_of f xs) y
in_each {X} {Y} f (z ∷ xs) x y (inl e) j = in_left (f z) (each_of f xs) y (subst (λ w. In (f w) y) (sym e) j)
in_each {X} {Y} f (z ∷ xs) x y (inr i) j = in_right (f z) (each_of f xs) y (in_each f xs x y i j)
in_each {X} {Y} f [] x y i j = absurd i

-- 2. a value equals itself
mutual
  denoted_same : (x : Denoted) → denoted_eq x x ≡ true
  denoted_same (variant_of s i xs) = grind (arith, common_steps, denoted_list_same xs, and_from, number_same)
  denoted_same (struct_of s xs) = grind (arith, common_steps, denoted_list_same xs, and_from, number_same)
  denoted_same x = grind (arith, common_steps, beq_same, Decides-int_eq, and_from, number_same)

  denoted_list_same : (xs : DenotedList) → denoted_list_eq xs xs ≡ true
  denoted_list_same no_denoted = refl
  denoted_list_same (denoted_and x xs) = and_from (denoted_eq x x) (denoted_list_eq xs xs) (denoted_same x) (denoted_list_same xs)

equals_itself : (x : Denoted) → applied_to equals (denoted_and x (denoted_and x no_denoted)) ≡ Some (a_truth true)
equals_itself x = grind (arith, denoted_same, number_same)

-- 3. a word's width is among those that are listed
width_listed : (ws : List ℕ) (x : Denoted) → is_of_sort (words_among ws) x ≡ true → In ws (width_in x)
width_listed ws x h = grind (arith, common_steps, listed_width)

module _ (types : List TypeEntry) (specs : Specs) (vs : Place → Denoted) (u : Unknowns) where
  abbrev m : Model
  m = model_of vs u

  atoms_alone : (ty : ℕ) (o : Option TypeEntry) (s : Sort) (x : Denoted) → IsOf types specs ty o x → split_sort o (sort_of specs ty) ≡ Some s → is_of_sort s x ≡ true
  atoms_alone ty o s x h e = grind (arith, common_steps, and_parts (is_modelled_as (sort_of specs ty) x) true, nothing_made types specs ty, none_some s, and_parts, nothing_made, none_some)

  -- 4. what steps assume and show
  abbrev pub FitsSaid : Said → Type 0
  FitsSaid s = AllFit types specs vs s.args × FitsIf types specs vs u s.result

  abbrev pub IsHeld : Said → Type 0
  IsHeld s = says u (stand_each vs u s.args) (stands_if types specs vs u s.result) s.expr [] ≡ Some (a_truth true)

  abbrev pub AllHeld : List Said → Type 0
  AllHeld ss = (s : Said) → In ss s → IsHeld s

  abbrev pub AllSaidFit : List Said → Type 0
  AllSaidFit ss = (s : Said) → In ss s → FitsSaid s

  abbrev pub IsToldAs : Form → Constraint → Type 0
  IsToldAs f (is_variant ty variant fields) = (xs : DenotedList) × (stands vs u f ≡ variant_of ty variant xs)
  IsToldAs f (is_bool b ty) = stands vs u f ≡ a_truth b
  IsToldAs f (is_int z ty) = (x : Denoted) → literal_of specs z ty ≡ Some x → (stands vs u f ≡ x) × Fits types specs vs f
  IsToldAs f (is_prim name) = (x : Denoted) → constant_of specs name ≡ Some x → (stands vs u f ≡ x) × Fits types specs vs f
  IsToldAs f _ = Unit {0}

  abbrev pub Assumes : Step → Type 0
  Assumes (split_at ty at) = is_of_type types specs ty (vs at) ≡ true
  Assumes (told_as f k) = IsToldAs f k
  Assumes (told_same f g) = Fits types specs vs f × Fits types specs vs g × (stands vs u f ≡ stands vs u g)
  Assumes (assumed s) = FitsSaid s × IsHeld s
  Assumes (assumed_under ss s) = AllSaidFit ss × FitsSaid s × (AllHeld ss → IsHeld s)
  Assumes (shown s) = FitsSaid s

  abbrev pub Shows : Step → Type 0
  Shows (shown s) = IsHeld s
  Shows _ = Unit {0}

  abbrev pub AreShown : List Step → Type 0
  AreShown [] = Unit {0}
  AreShown (s ∷ rest) = Assumes s → Shows s × AreShown rest

  module _ (coherent : IsCoherent vs) (formed : (at : Place) → is_formed (vs at) ≡ true) (answers : AreUnknownsSorted (record specs { unknowns = u })) where
    is_model : IsModel specs m
    is_model = record { formed = λ at width. number_formed (vs at) width (formed at); functions = answers }

    assumed_so : (k : Known) (s : Said) → AreKnown m k → FitsSaid s → IsHeld s → is_so m (perhaps (come_to types specs k s)) ≡ true
    assumed_so k s told fits h = grind (arith, perhaps_so, stand_each, stands_if, come_described)

    shown_said : (k : Known) (s : Said) → AreKnown m k → FitsSaid s → is_so m (surely (come_to types specs k s)) ≡ true → IsHeld s
    shown_said k s told fits h = grind (arith, surely_said, stand_each, stands_if, come_described)

    all_said : (k : Known) (ss : List Said) → AreKnown m k → AllSaidFit ss → is_so m (all_surely types specs k ss) ≡ true → AllHeld ss
    all_said k [] told fits h s i = absurd i
    all_said k (r ∷ ss) told fits h s (inl e) = grind (arith, common_steps, shown_said, both_parts)
    all_said k (r ∷ ss) told fits h s (inr i) = all_said k ss told (λ x j. fits x (inr j)) (both_parts m (surely (come_to types specs k r)) (all_surely types specs k ss) h).1 s i

    under_so : (k : Known) (ss : List Said) (s : Said) → AreKnown m k → AllSaidFit ss → FitsSaid s → (AllHeld ss → IsHeld s)
        → is_so m (one_of (none_of (all_surely types specs k ss)) (perhaps (come_to types specs k s))) ≡ true
    under_so k ss s told fits fit h = by (is_so m (all_surely types specs k ss)) refl
      where
        by : (b : Bool) → is_so m (all_surely types specs k ss) ≡ b → is_so m (one_of (none_of (all_surely types specs k ss)) (perhaps (come_to types specs k s))) ≡ true
        by true e = one_right m (none_of (all_surely types specs k ss)) (perhaps (come_to types specs k s)) (assumed_so k s told fit (h (all_said k ss told fits e)))
        by false e = one_left m (none_of (all_surely types specs k ss)) (perhaps (come_to types specs k s)) (none_from m (all_surely types specs k ss) e)

    same_so : (k : Known) (f g : Form) → AreKnown m k → Fits types specs vs f → Fits types specs vs g → stands vs u f ≡ stands vs u g → is_so m (same_fact types specs k f g) ≡ true
    same_so k f g told ff fg e =
        perhaps_so types specs vs u (then_cases (opened_each types specs k (form_and f (form_and g no_form))) (fitted (widths_of specs) equals)) (applied_to equals (denoted_and (stands vs u f) (denoted_and (stands vs u g) no_denoted)))
        (opened_fitted_described types specs vs u coherent formed answers k told no_form None tt tt equals (form_and f (form_and g no_form)) (ff, (fg, tt)))
        (ap (λ y. applied_to equals (denoted_and (stands vs u f) (denoted_and y no_denoted))) (sym e) ∙ equals_itself (stands vs u f))

    same_if_so : (k : Known) (f : Form) (o : Option Denoted) → AreKnown m k → ((x : Denoted) → o ≡ Some x → (stands vs u f ≡ x) × Fits types specs vs f) → is_so m (same_if types specs k f o) ≡ true
    same_if_so k f o told h = grind (arith, common_steps, same_so, written_fits, written_stands)

    truth_so : (b : Bool) (f : Form) → stands vs u f ≡ a_truth b → is_so m (truth_fact b f) ≡ true
    truth_so b f e = grind (arith, common_steps, none_from, model_of)

    told_so : (k : Known) (f : Form) (c : Constraint) → AreKnown m k → IsToldAs f c → is_so m (told_fact types specs k f c) ≡ true
    told_so k f c told h = grind (arith, common_steps, truth_so, same_if_so)

    -- 5. one step after another
    abbrev AreRefuted : List (List Fact) → Type 0
    AreRefuted qs = (q : List Fact) → In qs q → IsUnsatisfiable specs q

    abbrev Next : List Step → Type 0
    Next rest = (k : Known) (fs : List Fact) → AreKnown m k → are_so m fs ≡ true → AreRefuted (paths types specs rest k fs) → AreShown rest

    -- a fact that is so is added
    added : (rest : List Step) (k : Known) (fs : List Fact) (f : Fact) → Next rest → AreKnown m k → are_so m fs ≡ true → is_so m f ≡ true → AreRefuted (paths types specs rest (learned f k) (f ∷ fs)) → AreShown rest
    added rest k fs f next told so e r = next (learned f k) (f ∷ fs) (learned_told m f k e told) (and_from (is_so m f) (are_so m fs) e so) r

    assumed_next : (rest : List Step) (k : Known) (fs : List Fact) (f : Fact) → Next rest → AreKnown m k → are_so m fs ≡ true → is_so m f ≡ true
        → AreRefuted (unless_false f (paths types specs rest (learned f k) (f ∷ fs))) → AreShown rest
    assumed_next rest k fs f next told so e r = grind (arith, added)

    split_next : (ty : ℕ) (at : Place) (rest : List Step) (k : Known) (fs : List Fact) (o : Option Sort) → split_sort (slice_get types ty) (sort_of specs ty) ≡ o → Next rest → AreKnown m k → are_so m fs ≡ true
        → AreRefuted (at_each_width o (λ w. paths types specs rest (with_width at w k) (as_wide at w ∷ fs)) (paths types specs rest k fs)) → is_of_type types specs ty (vs at) ≡ true → AreShown rest
    split_next ty at rest k fs (Some (words_among ws)) e next told so r fits =
        let w = width_in (vs at) in
        let listed = width_listed ws (vs at) (atoms_alone ty (slice_get types ty) (words_among ws) (vs at) (type_says types specs ty (vs at) fits) e) in
        next (with_width at w k) (as_wide at w ∷ fs) (width_more m k at w refl told) (and_from (is_so m (as_wide at w)) (are_so m fs) (number_same w) so)
        (λ q i. r q (in_each (λ v. paths types specs rest (with_width at v k) (as_wide at v ∷ fs)) ws w q listed i))
    split_next ty at rest k fs _ e next told so r fits = next k fs told so r

    goal_so : (k : Known) (fs : List Fact) (s : Said) → are_so m fs ≡ true → IsUnsatisfiable specs (none_of (surely (come_to types specs k s)) ∷ fs) → is_so m (surely (come_to types specs k s)) ≡ true
    goal_so k fs s so refuted = by (is_so m (surely (come_to types specs k s))) refl
      where
        by : (b : Bool) → is_so m (surely (come_to types specs k s)) ≡ b → is_so m (surely (come_to types specs k s)) ≡ true
        by true e = e
        by false e =
            absurd (refuted m is_model (and_from (is_so m (none_of (surely (come_to types specs k s)))) (are_so m fs) (none_from m (surely (come_to types specs k s)) e) so))

    pub steps_shown : (steps : List Step) (k : Known) (fs : List Fact) → AreKnown m k → are_so m fs ≡ true → AreRefuted (paths types specs steps k fs) → AreShown steps
    steps_shown [] k fs told so r = tt
    steps_shown (split_at ty at ∷ rest) k fs told so r =
        λ fits. (tt, split_next ty at rest k fs (split_sort (slice_get types ty) (sort_of specs ty)) refl (λ k' fs' t s q. steps_shown rest k' fs' t s q) told so r fits)
    steps_shown (told_as f c ∷ rest) k fs told so r =
        λ h. (tt, assumed_next rest k fs (fact_of types specs k (told_as f c)) (λ k' fs' t s q. steps_shown rest k' fs' t s q) told so (told_so k f c told h) r)
    steps_shown (told_same f g ∷ rest) k fs told so r =
        λ h. (tt, assumed_next rest k fs (fact_of types specs k (told_same f g)) (λ k' fs' t s q. steps_shown rest k' fs' t s q) told so (same_so k f g told h.0 h.1 h.2) r)
    steps_shown (assumed s ∷ rest) k fs told so r = grind (arith, common_steps, steps_shown rest, assumed_next, assumed_so)
    steps_shown (assumed_under ss s ∷ rest) k fs told so r = grind (arith, common_steps, steps_shown rest, assumed_next, under_so)
    steps_shown (shown s ∷ rest) k fs told so r =
        λ h. let e = goal_so k fs s so (r (none_of (fact_of types specs k (shown s)) ∷ fs) (inl refl)) in
        (shown_said k s told h e, added rest k fs (fact_of types specs k (shown s)) (λ k' fs' t s' q. steps_shown rest k' fs' t s' q) told so e (λ q i. r q (inr i)))
