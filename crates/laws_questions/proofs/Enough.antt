-- Where no question about a condition can be satisfied, the condition is valid.
use Rattle.std.proofs.Common.{if◌then◌else◌, ◌≡◌, ◌⊎◌, ◌+◌, ℕ, zero, suc, Bool, true, false, List, [], ◌∷◌, ◌++◌, map, Option, Some, None, slice_get, is_some, All, Contains, IsTrue, flat_map, append_assoc, refl, sym, ap, ◌∙◌, subst, inl, inr, arith}
use Rattle.std.proofs.lemmas.Bool.{false≢true}
use Rattle.std.proofs.lemmas.Grind.{common_steps}
use Rattle.std.proofs.lemmas.List.Elements.{All-nil, All-cons}
use Rattle.model.specs.rules.Program.{Program, arg_types}
use Rattle.model.specs.sites.Sites.{Constraint, is_variant, is_struct, is_bool, is_int, is_prim, is_present, SiteTerm, bool_term, int_term, prim_term, argument, extractor_call, constructor_call, pick_of, variant_made, variant_field, struct_made, struct_field, some_made, some_part, tuple_part, no_site, SiteTerms}
use Rattle.model.specs.sites.Serves.{term_args}
use Rattle.model.proofs.Elements.{In, in_map, map_in, contains_from_in, none_some}
use Rattle.laws_sites.proofs.built.WellBuiltSets.{in_from_all}
use Rattle.laws_specs.specs.Words.{Denoted, a_truth, variant_of, DenotedList, denoted_list}
use Rattle.laws_specs.specs.Specs.{SpecExpr, Specs, spec_of, IsSaid, IsRequired, IsProvided}
use Rattle.laws_specs.specs.Conditions.{ToldContent, told, told_just, told_many, answered_as, result_as, Valuation, denoted_at_each, IsMetAs, IsConstructedAsSaid, IsAnsweredAsSaid, IsExtractedAsSaid, is_impure_call, call_of, IsTypedAs, Condition, IsAssumed, IsCallMade, IsShown}
use Rattle.model_questions.specs.Formulas.{Place, argument_at, output_at, Fact}
use Rattle.model_questions.specs.Forms.{Form, Forms, no_form, form_and}
use Rattle.model_questions.specs.Steps.{Said, Step, told_same, assumed, assumed_under, shown, Event, tests, equals_at, calls, gives_at, events_of, told_in, told_in_each, result_in, fresh, is_argument, is_output_of, is_form_below, told_fields, told_form, told_splits, field_splits, tested_in, args_in, requires_of, provides_of, split_form, split_each, is_pure_made, is_answered, form_at, forms_at, result_form, constructed, outputs_at, extracted, picked, answer_steps, required_steps, told_steps, steps_from, args_of, steps_of}
use Rattle.model_questions.specs.Questions.{nothing_known, questions, IsUnsatisfiable}
use Rattle.model_questions.proofs.Opening.{fields_stand}
use Rattle.model_questions.proofs.Shown.{FitsSaid, IsHeld, AllHeld, AllSaidFit, IsToldAs, AreShown, steps_shown}
use Rattle.model_questions.proofs.Standing.{model_of, AreKnown, stands, Fits, AllFit}
use Rattle.laws_questions.proofs.Values.{value_at, or_false, coherent, values_formed}
use Rattle.laws_questions.proofs.SiteForms.{Is, AreAll, output_is_at, pure_made, IsMetCall, AreDone, typed_answer, said_answer, met_answer, told_fields_fit, typed_pick, said_pick, told_is, each_is, result_is}
use Rattle.laws_questions.proofs.Answered.{in_fresh, IsAnswer, AreAnswers, told_answers, each_answers, result_answers, tested_answers}
use Rattle.laws_questions.specs.EnoughLaws.{QuestionsAskEnough}

all_from : {X : Type 0} (P : X → Type 0) (xs : List X) → ((x : X) → In xs x → P x) → All P xs
all_from {X} P [] h = All-nil P
all_from {X} P (x ∷ xs) h = All-cons P x xs (h x (inl refl)) (all_from P xs (λ y i. h y (inr i)))

abbrev said_on : Forms → Option Form → SpecExpr → Said
said_on gs o e = record { args = gs; result = o; expr = e }

nil_apart : (u : SiteTerm) (later : List SiteTerm) → [] ≡ u ∷ later → ⊥
nil_apart u later e = cc

some_there : (o : Option ToldContent) → IsTrue (is_some o) → (h : ToldContent) × (o ≡ Some h)
some_there o e = grind (arith, common_steps)

module _ (p : Program) (specs : Specs) (c : Condition) (args : DenotedList) (f : Valuation) (a : IsAssumed p specs c args f) where
  abbrev v : Place → Denoted
  v = value_at args f

  abbrev Shown : List Step → Type 0
  Shown steps = AreShown p.types specs v specs.unknowns steps

  abbrev FitsS : Said → Type 0
  FitsS s = FitsSaid p.types specs v specs.unknowns s

  abbrev Held : Said → Type 0
  Held s = IsHeld p.types specs v specs.unknowns s

  -- 1. lists of steps
  assume_all : (ss : List Said) (rest : List Step) → ((s : Said) → In ss s → FitsS s × Held s) → Shown (map assumed ss ++ rest) → Shown rest
  assume_all [] rest h k = k
  assume_all (s ∷ ss) rest h k = assume_all ss rest (λ r i. h r (inr i)) (k (h s (inl refl))).1

  assume_under : (under ss : List Said) (rest : List Step) → AllSaidFit p.types specs v specs.unknowns under → ((s : Said) → In ss s → FitsS s × (AllHeld p.types specs v specs.unknowns under → Held s))
      → Shown (map (assumed_under under) ss ++ rest) → Shown rest
  assume_under under [] rest g h k = k
  assume_under under (s ∷ ss) rest g h k = let r = h s (inl refl) in assume_under under ss rest g (λ x i. h x (inr i)) (k (g, r.0, r.1)).1

  show_all : (ss : List Said) (rest : List Step) → ((s : Said) → In ss s → FitsS s) → Shown (map shown ss ++ rest) → ((s : Said) → In ss s → Held s) × Shown rest
  show_all (s ∷ ss) rest h k = grind (arith, common_steps, show_all ss rest)
  show_all [] rest h k = (λ s i. absurd i, k)

  split_one : (plan : Place → Bool) (g : Form) (rest : List Step) → Fits p.types specs v g → Shown (split_form plan g ++ rest) → Shown rest
  split_one plan g rest h k = grind (arith, common_steps)

  split_all : (plan : Place → Bool) (gs : Forms) (rest : List Step) → AllFit p.types specs v gs → Shown (split_each plan gs ++ rest) → Shown rest
  split_all plan no_form rest h k = k
  split_all plan (form_and g gs) rest h k = split_all plan gs rest h.1 (split_one plan g (split_each plan gs ++ rest) h.0 (subst Shown (append_assoc (split_form plan g) (split_each plan gs) rest) k))

  -- 2. what a term requires and provides, on forms
  module _ (t : ℕ) (gs : Forms) (xs : DenotedList) (all : AreAll p specs c args f a gs xs) where
    required_fit : (s : Said) → In (requires_of specs t gs) s → FitsS s
    required_fit s i = let k = in_map (λ (e : SpecExpr). record { args = gs; result = None; expr = e }) (spec_of specs t).require s i in subst FitsS k.2 (all.1, tt)

    required_held : IsRequired specs t xs → (s : Said) → In (requires_of specs t gs) s → Held s
    required_held h s i =
        let k = in_map (λ (e : SpecExpr). record { args = gs; result = None; expr = e }) (spec_of specs t).require s i in
        subst Held k.2 (subst (λ ys. IsSaid specs.unknowns ys None k.0) (sym all.0) (in_from_all (IsSaid specs.unknowns xs None) (spec_of specs t).require h k.0 k.1))

    required_back : ((s : Said) → In (requires_of specs t gs) s → Held s) → IsRequired specs t xs
    required_back h =
        all_from (IsSaid specs.unknowns xs None) (spec_of specs t).require
        (λ e i. subst (λ ys. IsSaid specs.unknowns ys None e) all.0 (h (said_on gs None e) (map_in (said_on gs None) (spec_of specs t).require e i)))

    module _ (r : Form) (x : Denoted) (is : Is p specs c args f a r x) where
      provided_fit : (s : Said) → In (provides_of specs t gs r) s → FitsS s
      provided_fit s i = let k = in_map (λ (e : SpecExpr). record { args = gs; result = Some r; expr = e }) (spec_of specs t).provide s i in subst FitsS k.2 (all.1, is.1)

      provided_held : IsProvided specs t xs x → (s : Said) → In (provides_of specs t gs r) s → Held s
      provided_held h s i =
          let k = in_map (λ (e : SpecExpr). record { args = gs; result = Some r; expr = e }) (spec_of specs t).provide s i in
          subst Held k.2
          (subst (λ ys. IsSaid specs.unknowns ys (Some (stands v specs.unknowns r)) k.0) (sym all.0)
          (subst (λ y. IsSaid specs.unknowns xs (Some y) k.0) (sym is.0) (in_from_all (IsSaid specs.unknowns xs (Some x)) (spec_of specs t).provide h k.0 k.1)))

      provided_back : ((s : Said) → In (provides_of specs t gs r) s → Held s) → IsProvided specs t xs x
      provided_back h =
          all_from (IsSaid specs.unknowns xs (Some x)) (spec_of specs t).provide
          (λ e i. subst (λ y. IsSaid specs.unknowns xs (Some y) e) is.0
          (subst (λ ys. IsSaid specs.unknowns ys (Some (stands v specs.unknowns r)) e) all.0 (h (said_on gs (Some r) e) (map_in (said_on gs (Some r)) (spec_of specs t).provide e i))))

  -- fields of variants that are told
  abbrev none_done : AreDone p specs c args f a []
  none_done w i = absurd i

  told_all_fit : (s : SiteTerm) (k : Constraint) → IsMetAs specs f s k → AllFit p.types specs v (told_fields p (told_form p specs c s) k)
  told_all_fit s (is_variant ty variant n) h = told_fields_fit p specs c args f a (told_form p specs c s) ty variant n h.0 (told_is p specs c args f a [] none_done s (variant_of ty variant h.0) h.1)
  told_all_fit s k h = grind (arith, common_steps)

  splits_next : (plan root : Place → Bool) (s : SiteTerm) (k : Constraint) (rest : List Step) → IsMetAs specs f s k → Shown (told_splits p specs c plan root s k ++ rest) → Shown rest
  splits_next plan root s k rest met h = by (is_form_below root (told_form p specs c s)) h
    where
      by : (b : Bool) → Shown ((if b then split_each plan (told_fields p (told_form p specs c s) k) else []) ++ rest) → Shown rest
      by false g = g
      by true g = split_all plan (told_fields p (told_form p specs c s) k) rest (told_all_fit s k met) g

  all_splits_next : (plan root : Place → Bool) (ks : List (SiteTerm × Constraint)) (rest : List Step) → ((s : SiteTerm) (k : Constraint) → In ks (s, k) → IsMetAs specs f s k)
      → Shown (field_splits p specs c plan root ks ++ rest) → Shown rest
  all_splits_next plan root [] rest met h = h
  all_splits_next plan root (k ∷ ks) rest met h =
      all_splits_next plan root ks rest (λ s q i. met s q (inr i))
      (splits_next plan root k.0 k.1 (field_splits p specs c plan root ks ++ rest) (met k.0 k.1 (inl refl)) (subst Shown (append_assoc (told_splits p specs c plan root k.0 k.1) (field_splits p specs c plan root ks) rest) h))

  all_met : (s : SiteTerm) (k : Constraint) → In c.constraints (s, k) → IsMetAs specs f s k
  all_met s k i = a.constraints s k (contains_from_in c.constraints (s, k) i)

  -- 3. answers of calls
  module _ (done : List SiteTerm) (are_done : AreDone p specs c args f a done) (plan : Place → Bool) where
    constructed_next : (typed : Bool) (t : ℕ) (ss : SiteTerms) (n : ℕ) (u : SiteTerm) (x : Denoted) (xs : DenotedList) (h : ToldContent) (rest : List Step)
        → denoted_at_each f ss ≡ Some xs → result_as h ≡ Some x → Is p specs c args f a (form_at p specs c done u) x → (typed ≡ true → IsConstructedAsSaid specs t xs h)
        → (typed ≡ true → is_impure_call (constructor_call t ss n) ≡ true → IsRequired specs t xs) → Shown (constructed p specs c done plan typed t ss n u ++ rest) → Shown rest
    constructed_next false t ss n u x xs h rest e q is said met k = k
    constructed_next true t ss (suc n) u x xs h rest e q is said met k =
        let gs = forms_at p specs c done ss in
        let all = each_is p specs c args f a done are_done ss xs e in
        let steps = map assumed (provides_of specs t gs (form_at p specs c done u)) in
        let first = split_one plan (form_at p specs c done u) (steps ++ rest) is.1 (subst Shown (append_assoc (split_form plan (form_at p specs c done u)) steps rest) k) in
        assume_all (provides_of specs t gs (form_at p specs c done u)) rest
        (λ s i. (provided_fit t gs xs all (form_at p specs c done u) x is s i, provided_held t gs xs all (form_at p specs c done u) x is (said refl (met refl refl) x q) s i)) first
    constructed_next true t ss zero u x xs h rest e q is said met k =
        let gs = forms_at p specs c done ss in
        let all = each_is p specs c args f a done are_done ss xs e in
        let first = split_one plan (form_at p specs c done u) (map (assumed_under (requires_of specs t gs)) (provides_of specs t gs (form_at p specs c done u)) ++ rest) is.1
        (subst Shown (append_assoc (split_form plan (form_at p specs c done u)) (map (assumed_under (requires_of specs t gs)) (provides_of specs t gs (form_at p specs c done u))) rest) k) in
        assume_under (requires_of specs t gs) (provides_of specs t gs (form_at p specs c done u)) rest (required_fit t gs xs all)
        (λ s i. (provided_fit t gs xs all (form_at p specs c done u) x is s i, λ held. provided_held t gs xs all (form_at p specs c done u) x is (said refl (required_back t gs xs all held) x q) s i)) first

    extracted_next : (typed : Bool) (t : ℕ) (s u : SiteTerm) (x : Denoted) (xs : DenotedList) (h : ToldContent) (rest : List Step)
        → f s ≡ Some (told x) → f u ≡ Some h → answered_as h ≡ Some xs → (typed ≡ true → IsTypedAs p specs (extractor_call t s) h × IsExtractedAsSaid specs t x h)
        → Shown (extracted p specs c done plan typed t s u ++ rest) → Shown rest
    extracted_next false t s u x xs h rest e there q known k = k
    extracted_next true t s u x xs h rest e there q known k =
        let gs = outputs_at p specs c done t u in
        let all : AreAll p specs c args f a gs xs =
        fields_stand p.types specs v specs.unknowns (output_at u) 0 (term_args (slice_get p.terms t)) xs
        (λ n y r. ap (λ i. v (output_at u i)) (let z : 0 + n ≡ n = omega arith in z) ∙ output_is_at p specs c args f a u h xs n y there q r) ((known refl).0.0 xs q) in
        let is = told_is p specs c args f a done are_done s x e in
        let said = (known refl).1 xs q in
        let provided = map assumed (provides_of specs t gs (form_at p specs c done s)) in
        let required = map assumed (requires_of specs t gs) in
        let splits = field_splits p specs c plan (is_output_of u) c.constraints in
        let rest2 = provided ++ rest in
        let first = split_all plan gs ((splits ++ (required ++ provided)) ++ rest) all.1 (subst Shown (append_assoc (split_each plan gs) (splits ++ (required ++ provided)) rest) k) in
        let between = all_splits_next plan (is_output_of u) c.constraints ((required ++ provided) ++ rest) all_met (subst Shown (append_assoc splits (required ++ provided) rest) first) in
        let second = assume_all (requires_of specs t gs) rest2 (λ r i. (required_fit t gs xs all r i, required_held t gs xs all said.0 r i)) (subst Shown (append_assoc required provided rest) between) in
        assume_all (provides_of specs t gs (form_at p specs c done s)) rest (λ r i. (provided_fit t gs xs all (form_at p specs c done s) x is r i, provided_held t gs xs all (form_at p specs c done s) x is said.1 r i)) second

    picked_next : (w : SiteTerm) (rest : List Step) → IsAnswer p specs c args f a (pick_of w) → Shown (picked p specs c done plan w ++ rest) → Shown rest
    picked_next (constructor_call t ss n) rest (h, x, e, q) k =
        let w = constructor_call t ss n in
        let there = a.held w told_many (a.held (pick_of w) h e) in
        constructed_next (is_pure_made p specs c w) t ss n (pick_of w) x there.0 h rest there.1 q (result_is p specs c args f a done are_done (pick_of w) h x e q)
        (λ typed. said_pick p specs c args f a w typed there.0 h there.1 e) (λ typed impure. absurd (false≢true (sym (pure_made p specs c args f a w typed).1 ∙ impure))) k
    picked_next (extractor_call t s) rest (h, xs, e, q) k =
        let w = extractor_call t s in
        let there = a.held w told_many (a.held (pick_of w) h e) in
        extracted_next (is_pure_made p specs c w) t s (pick_of w) there.0 xs h rest there.1 e q (λ typed. (typed_pick p specs c args f a w typed h e, said_pick p specs c args f a w typed there.0 h there.1 e)) k
    picked_next (bool_term b ty) rest n k = k
    picked_next (int_term z ty) rest n k = k
    picked_next (prim_term name) rest n k = k
    picked_next (argument i) rest n k = k
    picked_next (pick_of s) rest n k = k
    picked_next (variant_made ty variant ss) rest n k = k
    picked_next (variant_field s variant i) rest n k = k
    picked_next (struct_made ty ss) rest n k = k
    picked_next (struct_field s i) rest n k = k
    picked_next (some_made s) rest n k = k
    picked_next (some_part s) rest n k = k
    picked_next (tuple_part s i) rest n k = k
    picked_next no_site rest n k = k

    answer_next : (w : SiteTerm) (rest : List Step) → IsAnswer p specs c args f a w → Shown (answer_steps p specs c done plan w ++ rest) → Shown rest
    answer_next (constructor_call t ss n) rest (h, x, e, q) k =
        let w = constructor_call t ss n in
        let there = a.held w h e in
        constructed_next (is_answered p specs c done w) t ss n w x there.0 h rest there.1 q (result_is p specs c args f a done are_done w h x e q)
        (λ typed. said_answer p specs c args f a done are_done w typed there.0 h there.1 e) (λ typed impure. met_answer p specs c args f a done are_done w typed impure there.0 there.1) k
    answer_next (extractor_call t s) rest (h, xs, e, q) k =
        let w = extractor_call t s in
        let there = a.held w h e in
        extracted_next (is_answered p specs c done w) t s w there.0 xs h rest there.1 e q
        (λ typed. (typed_answer p specs c args f a done are_done w typed h e, said_answer p specs c args f a done are_done w typed there.0 h there.1 e)) k
    answer_next (pick_of s) rest n k = picked_next s rest n k
    answer_next (bool_term b ty) rest n k = k
    answer_next (int_term z ty) rest n k = k
    answer_next (prim_term name) rest n k = k
    answer_next (argument i) rest n k = k
    answer_next (variant_made ty variant ss) rest n k = k
    answer_next (variant_field s variant i) rest n k = k
    answer_next (struct_made ty ss) rest n k = k
    answer_next (struct_field s i) rest n k = k
    answer_next (some_made s) rest n k = k
    answer_next (some_part s) rest n k = k
    answer_next (tuple_part s i) rest n k = k
    answer_next no_site rest n k = k

    answers_next : (ws : List SiteTerm) (rest : List Step) → AreAnswers p specs c args f a ws → Shown (flat_map (answer_steps p specs c done plan) ws ++ rest) → Shown rest
    answers_next (w ∷ ws) rest h k = grind (arith, common_steps, answers_next ws rest, answer_next, append_assoc)
    answers_next [] rest h k = k

    fresh_next : (seen ws : List SiteTerm) (rest : List Step) → AreAnswers p specs c args f a ws → Shown (flat_map (answer_steps p specs c done plan) (fresh seen ws) ++ rest) → Shown rest
    fresh_next seen ws rest h k = answers_next (fresh seen ws) rest (λ y i. h y (in_fresh seen ws y i)) k

  -- 4. events, one after another
  module _ (plan : Place → Bool) where
    abbrev Steps : List SiteTerm → List SiteTerm → List Event → List Step
    Steps seen done es = steps_from p specs c plan (args_of p specs c) seen done es

    told_as_is : (done : List SiteTerm) (are_done : AreDone p specs c args f a done) (s : SiteTerm) (k : Constraint) → IsMetAs specs f s k → IsToldAs p.types specs v specs.unknowns (form_at p specs c done s) k
    told_as_is done are_done s (is_variant ty variant fields) h = (h.0, (told_is p specs c args f a done are_done s (variant_of ty variant h.0) h.1).0)
    told_as_is done are_done s (is_bool b ty) h = (told_is p specs c args f a done are_done s (a_truth b) h).0
    told_as_is done are_done s (is_int z ty) h = λ x e. told_is p specs c args f a done are_done s x (h x e)
    told_as_is done are_done s (is_prim name) h = λ x e. told_is p specs c args f a done are_done s x (h x e)
    told_as_is done are_done s k h = tt

    tests_next : (done : List SiteTerm) (are_done : AreDone p specs c args f a done) (seen : List SiteTerm) (s : SiteTerm) (k : Constraint) (es : List Event) → IsMetAs specs f s k
        → Shown (Steps seen done (tests s k ∷ es)) → Shown (Steps (tested_in p specs c s k ++ seen) done es)
    tests_next done are_done seen s k es met h =
        fresh_next done are_done plan seen (tested_in p specs c s k) (Steps (tested_in p specs c s k ++ seen) done es) (tested_answers p specs c args f a s k met) h

    tell_all : (ks : List (SiteTerm × Constraint)) (rest : List Step) → ((s : SiteTerm) (k : Constraint) → In ks (s, k) → IsMetAs specs f s k) → Shown (told_steps p specs c ks ++ rest) → Shown rest
    tell_all [] rest met h = h
    tell_all (k ∷ ks) rest met h = tell_all ks rest (λ s q i. met s q (inr i)) (h (told_as_is [] none_done k.0 k.1 (met k.0 k.1 (inl refl)))).1

    equals_next : (done : List SiteTerm) (are_done : AreDone p specs c args f a done) (seen : List SiteTerm) (s t : SiteTerm) (x : Denoted) (es : List Event) → f s ≡ Some (told x) → f t ≡ Some (told x)
        → Shown (Steps seen done (equals_at s t ∷ es)) → Shown (Steps ((told_in s ++ told_in t) ++ seen) done es)
    equals_next done are_done seen s t x es e q h =
        let first = told_is p specs c args f a done are_done s x e in
        let second = told_is p specs c args f a done are_done t x q in
        (fresh_next done are_done plan seen (told_in s ++ told_in t) (told_same (form_at p specs c done s) (form_at p specs c done t) ∷ Steps ((told_in s ++ told_in t) ++ seen) done es)
        (λ w i. elim (in_both (told_in s) (told_in t) w i) [ inl j ↦ told_answers p specs c args f a s x e w j | inr j ↦ told_answers p specs c args f a t x q w j ]) h
        (first.1, second.1, first.0 ∙ sym second.0)).1
      where
        in_both : (ws us : List SiteTerm) (w : SiteTerm) → In (ws ++ us) w → In ws w ⊎ In us w
        in_both [] us w i = inr i
        in_both (y ∷ ws) us w (inl r) = inl (inl r)
        in_both (y ∷ ws) us w (inr i) = elim (in_both ws us w i) [ inl j ↦ inl (inr j) | inr j ↦ inr j ]

    -- the arguments of an impure call are there: it meets its require, and what follows is shown
    called_next : (done : List SiteTerm) (are_done : AreDone p specs c args f a done) (seen : List SiteTerm) (u : SiteTerm) (t n : ℕ) (ss : SiteTerms) (xs : DenotedList) (es : List Event)
        → call_of u ≡ constructor_call t ss n → denoted_at_each f ss ≡ Some xs → Shown (Steps seen done (calls u ∷ es)) → IsRequired specs t xs × Shown (Steps (args_in (call_of u) ++ seen) (call_of u ∷ done) es)
    called_next done are_done seen u t n ss xs es same e h =
        let gs = forms_at p specs c done ss in
        let all = each_is p specs c args f a done are_done ss xs e in
        let rest = Steps (args_in (call_of u) ++ seen) (call_of u ∷ done) es in
        let first = fresh_next done are_done plan seen (told_in_each ss) (map shown (requires_of specs t gs) ++ rest) (each_answers p specs c args f a ss xs e)
        (subst (λ w. Shown (flat_map (answer_steps p specs c done plan) (fresh seen (args_in w)) ++ (required_steps p specs c done w ++ rest))) same h) in
        let second = show_all (requires_of specs t gs) rest (required_fit t gs xs all) first in
        (required_back t gs xs all second.0, second.1)

    made_next : (done : List SiteTerm) (are_done : AreDone p specs c args f a done) (seen : List SiteTerm) (u : SiteTerm) (es : List Event) → IsCallMade p specs f u → Shown (Steps seen done (calls u ∷ es))
        → IsMetCall p specs c args f a (call_of u) × Shown (Steps (args_in (call_of u) ++ seen) (call_of u ∷ done) es)
    made_next done are_done seen u es made h = by (call_of u) refl
      where
        there : (w : SiteTerm) (g : ToldContent) → f w ≡ Some g → (k : ToldContent) × (f (call_of w) ≡ Some k)
        there (some_part s) g e = (told_just g, a.held (some_part s) g e)
        there (bool_term b ty) g e = (g, e)
        there (int_term z ty) g e = (g, e)
        there (prim_term name) g e = (g, e)
        there (argument i) g e = (g, e)
        there (extractor_call t s) g e = (g, e)
        there (constructor_call t ss n) g e = (g, e)
        there (pick_of s) g e = (g, e)
        there (variant_made ty variant ss) g e = (g, e)
        there (variant_field s variant i) g e = (g, e)
        there (struct_made ty ss) g e = (g, e)
        there (struct_field s i) g e = (g, e)
        there (some_made s) g e = (g, e)
        there (tuple_part s i) g e = (g, e)
        there no_site g e = (g, e)

        here : (k : ToldContent) × (f (call_of u) ≡ Some k)
        here = let g = some_there (f u) made.gave in there u g.0 g.1

        plain : (w : SiteTerm) → call_of u ≡ w → args_in w ≡ [] → required_steps p specs c done w ≡ [] → Shown (Steps (args_in (call_of u) ++ seen) (call_of u ∷ done) es)
        plain w same none no_steps =
            let rest = Steps (args_in (call_of u) ++ seen) (call_of u ∷ done) es in
            subst (λ l. Shown (l ++ rest)) no_steps
            (subst (λ l. Shown (flat_map (answer_steps p specs c done plan) (fresh seen l) ++ (required_steps p specs c done w ++ rest))) none
            (subst (λ x. Shown (flat_map (answer_steps p specs c done plan) (fresh seen (args_in x)) ++ (required_steps p specs c done x ++ rest))) same h))

        by : (w : SiteTerm) → call_of u ≡ w → IsMetCall p specs c args f a w × Shown (Steps (args_in (call_of u) ++ seen) (call_of u ∷ done) es)
        by (constructor_call t ss n) same =
            let k = a.held (constructor_call t ss n) here.0 (ap f (sym same) ∙ here.1) in
            (λ xs e. (called_next done are_done seen u t n ss xs es same e h).0, (called_next done are_done seen u t n ss k.0 es same k.1 h).1)
        by (bool_term b ty) same = (tt, plain (bool_term b ty) same refl refl)
        by (int_term z ty) same = (tt, plain (int_term z ty) same refl refl)
        by (prim_term name) same = (tt, plain (prim_term name) same refl refl)
        by (argument i) same = (tt, plain (argument i) same refl refl)
        by (extractor_call t s) same = (tt, plain (extractor_call t s) same refl refl)
        by (pick_of s) same = (tt, plain (pick_of s) same refl refl)
        by (variant_made ty variant ss) same = (tt, plain (variant_made ty variant ss) same refl refl)
        by (variant_field s variant i) same = (tt, plain (variant_field s variant i) same refl refl)
        by (struct_made ty ss) same = (tt, plain (struct_made ty ss) same refl refl)
        by (struct_field s i) same = (tt, plain (struct_field s i) same refl refl)
        by (some_made s) same = (tt, plain (some_made s) same refl refl)
        by (some_part s) same = (tt, plain (some_part s) same refl refl)
        by (tuple_part s i) same = (tt, plain (tuple_part s i) same refl refl)
        by no_site same = (tt, plain no_site same refl refl)

    done_more : (done : List SiteTerm) → AreDone p specs c args f a done → (u : SiteTerm) → IsCallMade p specs f u → IsMetCall p specs c args f a (call_of u) → AreDone p specs c args f a (call_of u ∷ done)
    done_more done are_done u made met w (inl e) =
        subst (λ z. IsAnsweredAsSaid specs f z z × ((h : ToldContent) → f z ≡ Some h → IsTypedAs p specs z h) × IsMetCall p specs c args f a z) e (made.answered, made.typed, met)
    done_more done are_done u made met w (inr i) = are_done w i

    all_tests_next : (ks : List (SiteTerm × Constraint)) (seen : List SiteTerm) (es : List Event) → ((s : SiteTerm) (k : Constraint) → In ks (s, k) → IsMetAs specs f s k) → Shown (Steps seen [] (map (λ e. tests e.0 e.1) ks ++ es))
        → (after : List SiteTerm) × Shown (Steps after [] es)
    all_tests_next (k ∷ ks) seen es met h = grind (arith, common_steps, all_tests_next ks (tested_in p specs c k.0 k.1 ++ seen) es, tests_next [], tests_next)
    all_tests_next [] seen es met h = (seen, h)

    all_equals_next : (ks : List (SiteTerm × SiteTerm)) (seen : List SiteTerm) (es : List Event) → ((s t : SiteTerm) → In ks (s, t) → (x : Denoted) × (f s ≡ Some (told x)) × (f t ≡ Some (told x)))
        → Shown (Steps seen [] (map (λ e. equals_at e.0 e.1) ks ++ es)) → (after : List SiteTerm) × Shown (Steps after [] es)
    all_equals_next [] seen es same h = (seen, h)
    all_equals_next (k ∷ ks) seen es same h =
        let e = same k.0 k.1 (inl refl) in
        all_equals_next ks ((told_in k.0 ++ told_in k.1) ++ seen) es (λ s t i. same s t (inr i)) (equals_next [] none_done seen k.0 k.1 e.0 (map (λ q. equals_at q.0 q.1) ks ++ es) e.1 e.2 h)

    all_made_next : (us : List SiteTerm) (done : List SiteTerm) (are_done : AreDone p specs c args f a done) (seen : List SiteTerm) (es : List Event) → ((u : SiteTerm) → In us u → IsCallMade p specs f u)
        → Shown (Steps seen done (map calls us ++ es)) → (after now : List SiteTerm) × AreDone p specs c args f a now × Shown (Steps after now es)
    all_made_next [] done are_done seen es made h = (seen, done, are_done, h)
    all_made_next (u ∷ us) done are_done seen es made h =
        let next = made_next done are_done seen u (map calls us ++ es) (made u (inl refl)) h in
        all_made_next us (call_of u ∷ done) (done_more done are_done u (made u (inl refl)) next.0) (args_in (call_of u) ++ seen) es (λ w i. made w (inr i)) next.1

    required_of : (us : List SiteTerm) (done : List SiteTerm) (are_done : AreDone p specs c args f a done) (seen : List SiteTerm) (es : List Event) → Shown (Steps seen done (map calls us ++ es))
        → (before later : List SiteTerm) (u : SiteTerm) (t n : ℕ) (ss : SiteTerms) (xs : DenotedList) → us ≡ before ++ u ∷ later → ((w : SiteTerm) → In before w → IsCallMade p specs f w)
        → call_of u ≡ constructor_call t ss n → denoted_at_each f ss ≡ Some xs → IsRequired specs t xs
    required_of [] done are_done seen es h [] later u t n ss xs split made same e = absurd (nil_apart u later split)
    required_of [] done are_done seen es h (b ∷ before) later u t n ss xs split made same e = absurd (nil_apart b (before ++ u ∷ later) split)
    required_of (w ∷ us) done are_done seen es h [] later u t n ss xs split made same e =
        (called_next done are_done seen w t n ss xs (map calls us ++ es) (ap call_of (first w u us later split) ∙ same) e h).0
      where
        first : (y z : SiteTerm) (ys zs : List SiteTerm) → y ∷ ys ≡ z ∷ zs → y ≡ z
        first y z ys zs q = cc
    required_of (w ∷ us) done are_done seen es h (b ∷ before) later u t n ss xs split made same e =
        let k = parted w b us (before ++ u ∷ later) split in
        let here = subst (λ z. IsCallMade p specs f z) (sym k.0) (made b (inl refl)) in
        let next = made_next done are_done seen w (map calls us ++ es) here h in
        required_of us (call_of w ∷ done) (done_more done are_done w here next.0) (args_in (call_of w) ++ seen) es next.1
        before later u t n ss xs k.1 (λ z i. made z (inr i)) same e
      where
        parted : (y z : SiteTerm) (ys zs : List SiteTerm) → y ∷ ys ≡ z ∷ zs → (y ≡ z) × (ys ≡ zs)
        parted y z ys zs q = (cc, cc)

    -- 5. the arguments
    args_are : AreAll p specs c args f a (args_of p specs c) args
    args_are = fields_stand p.types specs v specs.unknowns argument_at 0 (arg_types p c.term) args (λ n y q. ap (λ i. or_false (slice_get (denoted_list args) i)) (let z : 0 + n ≡ n = omega arith in z) ∙ ap or_false q) a.arguments

    given_next : (done : List SiteTerm) (are_done : AreDone p specs c args f a done) (seen : List SiteTerm) (h : ToldContent) (x : Denoted) → f c.result ≡ Some h → result_as h ≡ Some x
        → Shown (Steps seen done (gives_at c.result ∷ [])) → IsProvided specs c.term args x
    given_next done are_done seen h x e q k =
        let is = result_is p specs c args f a done are_done c.result h x e q in
        let r = result_form p specs c done c.result in
        let first = fresh_next done are_done plan seen (result_in p specs c done c.result) (map shown (provides_of specs c.term (args_of p specs c) r) ++ Steps (result_in p specs c done c.result ++ seen) done [])
        (result_answers p specs c args f a done are_done c.result h x e q) k in
        provided_back c.term (args_of p specs c) args args_are r x is
        (show_all (provides_of specs c.term (args_of p specs c) r) (Steps (result_in p specs c done c.result ++ seen) done []) (provided_fit c.term (args_of p specs c) args args_are r x is) first).0

    abbrev impure_events : List Event
    impure_events = map calls c.impure ++ gives_at c.result ∷ []

    -- what is assumed of arguments, constraints and equalities is passed
    start : Shown (steps_of p specs c plan) → (seen : List SiteTerm) × Shown (Steps seen [] impure_events)
    start h =
        let gs = args_of p specs c in
        let tail = Steps [] [] (events_of c) in
        let later = map assumed (requires_of specs c.term gs) ++ tail in
        let first = split_all plan gs (told_steps p specs c c.constraints ++ (field_splits p specs c plan is_argument c.constraints ++ later)) args_are.1 h in
        let told = tell_all c.constraints (field_splits p specs c plan is_argument c.constraints ++ later) all_met first in
        let split = all_splits_next plan is_argument c.constraints later all_met told in
        let second = assume_all (requires_of specs c.term gs) tail (λ s i. (required_fit c.term gs args args_are s i, required_held c.term gs args args_are a.required s i)) split in
        let third = all_tests_next c.constraints [] (map (λ e. equals_at e.0 e.1) c.equalities ++ impure_events) all_met second in
        all_equals_next c.equalities third.0 impure_events (λ s t i. a.equalities s t (contains_from_in c.equalities (s, t) i)) third.1

    pub shown_is : Shown (steps_of p specs c plan) → IsShown p specs c args f
    shown_is k =
        let s = start k in
        record {
          provides = λ h x made e q.
              let l = all_made_next c.impure [] none_done s.0 (gives_at c.result ∷ []) (λ u i. made u (contains_from_in c.impure u i)) s.1 in
              given_next l.1 l.2 l.0 h x e q l.3;
          requires = λ before later u t n ss xs split made same e.
              required_of c.impure [] none_done s.0 (gives_at c.result ∷ []) s.1 before later u t n ss xs split (λ w i. made w (contains_from_in before w i)) same e;
        }

  pub none_told : AreKnown (model_of v specs.unknowns) nothing_known
  none_told = record { widths = λ at w e. absurd (none_some w e); integers = λ at z e. absurd (none_some z e); kinds = λ at i e. absurd (none_some i e) }

  pub condition_shown : (plan : Place → Bool) → ((q : List Fact) → Contains (questions p specs c plan) q → IsUnsatisfiable specs q) → IsShown p specs c args f
  condition_shown plan refuted =
      shown_is plan
      (steps_shown p.types specs v specs.unknowns (coherent args f) (values_formed args f a.formed_args a.formed) a.unknowns (steps_of p specs c plan) nothing_known [] none_told refl
      (λ q i. refuted q (contains_from_in (questions p specs c plan) q i)))

pub questions_ask_enough_lem : QuestionsAskEnough
questions_ask_enough_lem p specs c plan refuted args f a = condition_shown p specs c args f a plan refuted
