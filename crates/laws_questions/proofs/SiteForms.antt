-- What sites stand for by forms is what they hold.
use Rattle.std.proofs.Common.{if◌then◌else◌, ◌≡◌, ℕ, suc, Bool, true, false, not, List, [], ◌∷◌, ◌+◌, Option, Some, None, slice_get, Contains, refl, sym, ap, ◌∙◌, subst, inl, inr, arith}
use Rattle.std.proofs.lemmas.Grind.{common_steps}
use Rattle.std.proofs.lemmas.Bool.{and_parts, false≢true}
use Rattle.model.specs.lists.Tables.{TypeEntry, TermEntry}
use Rattle.model.specs.rules.Outcome.{then_option}
use Rattle.model.specs.rules.Program.{Program, arg_types}
use Rattle.model.specs.rules.Values.{variant_types, struct_types}
use Rattle.model.specs.sites.Sites.{is_variant, SiteTerm, bool_term, int_term, prim_term, argument, extractor_call, constructor_call, pick_of, variant_made, variant_field, struct_made, struct_field, some_made, some_part, tuple_part, no_site, SiteTerms, no_site_term, site_term_and}
use Rattle.model.specs.sites.Serves.{term_args, term_results}
use Rattle.model.specs.visits.Demands.{site_term_eq, has_site}
use Rattle.model.proofs.Elements.{In, or_split, contains_from_in, some_is, none_some}
use Rattle.model.proofs.SameSites.{term_means}
use Rattle.laws_specs.specs.Words.{Denoted, a_truth, variant_of, struct_of, DenotedList, no_denoted, denoted_and, denoted_list}
use Rattle.laws_specs.specs.Specs.{Specs, constant_of, literal_of, IsRequired}
use Rattle.laws_specs.specs.Conditions.{ToldContent, told, told_parts, told_nothing, told_just, told_many, answered_as, as_denoted, result_as, told_outputs, Valuation, denoted_at_each, IsAnsweredAsSaid, is_impure_call, is_of_type, are_of_types, IsTypedAs, Condition, IsAssumed}
use Rattle.model_questions.specs.Formulas.{Place, argument_at, site_at, output_at, variant_field_at, struct_field_at}
use Rattle.model_questions.specs.Forms.{Form, a_fact, an_integer_by, a_word_by, variant_by, struct_by, any_of, some_at, Forms, form_list}
use Rattle.model_questions.specs.Steps.{or_form, typed_at, written_or, any_if, type_at, first_of, variant_field_form, struct_field_form, is_pure_made, is_answered, answer_form, output_form, form_at, forms_at, part_form, outputs_form, part_outputs_form, is_unwrapped, result_form, fields_if, told_fields}
use Rattle.model_questions.proofs.Opening.{IsOf, type_says, and_last_false, fields_stand}
use Rattle.model_questions.proofs.Standing.{stands, stand_each, written_stands, Fits, AllFit, written_fits, AreDescribed, forms_described}
use Rattle.laws_questions.proofs.Values.{or_false, variant_fields, struct_fields, part_of, value_at}

pub has_in : (ts : List SiteTerm) (s : SiteTerm) → has_site ts s ≡ true → In ts s
has_in [] s e = absurd (false≢true e)
has_in (t ∷ ts) s e = elim (or_split (site_term_eq t s) (has_site ts s) e) [ inl q ↦ inl (term_means t s q) | inr r ↦ inr (has_in ts s r) ]

not_false_is : (b : Bool) → not b ≡ true → b ≡ false
not_false_is b e = grind (arith, common_steps)

told_same : (x y : Denoted) → told x ≡ told y → x ≡ y
told_same x y e = cc

pub just_same : (h g : ToldContent) → told_just h ≡ told_just g → h ≡ g
just_same h g e = cc

told_apart : (x : Denoted) (g : ToldContent) → told x ≡ told_just g → ⊥
told_apart x g e = cc

pub result_alone : (h : ToldContent) (x : Denoted) → result_as h ≡ Some x → answered_as h ≡ Some (denoted_and x no_denoted)
result_alone h x e = grind (arith, common_steps, some_is, none_some)

told_of_result : (h : ToldContent) (x y : Denoted) → h ≡ told y → result_as h ≡ Some x → y ≡ x
told_of_result h x y e q = some_is y x (ap result_as (sym e) ∙ q)

typed_get : (types : List TypeEntry) (specs : Specs) (tys : List ℕ) (xs : DenotedList) → are_of_types types specs (Some tys) xs ≡ true → (i ty : ℕ) (x : Denoted) → slice_get tys i ≡ Some ty
    → slice_get (denoted_list xs) i ≡ Some x → is_of_type types specs ty x ≡ true
typed_get types specs (t ∷ tys) (denoted_and y ys) a (suc i) ty x e q =
    typed_get types specs tys ys (and_parts (is_of_type types specs t y) (are_of_types types specs (Some tys) ys) a).1 i ty x e q
typed_get types specs tys xs a i ty x e q = grind (arith, common_steps, none_some, some_is, and_parts)

-- the fields of a variant whose type has it are of its types; so of a struct
pub variant_typed : (types : List TypeEntry) (specs : Specs) (ty : ℕ) (o : Option TypeEntry) (s i : ℕ) (xs : DenotedList) (tys : List ℕ) → IsOf types specs ty o (variant_of s i xs) → variant_types o i ≡ Some tys
    → are_of_types types specs (Some tys) xs ≡ true
variant_typed types specs ty o s i xs tys h e = grind (arith, common_steps, none_some, and_last_false)

pub struct_typed : (types : List TypeEntry) (specs : Specs) (ty : ℕ) (o : Option TypeEntry) (s : ℕ) (xs : DenotedList) (tys : List ℕ) → IsOf types specs ty o (struct_of s xs) → struct_types o ≡ Some tys
    → are_of_types types specs (Some tys) xs ≡ true
struct_typed types specs ty o s xs tys h e = grind (arith, common_steps, none_some)

pub both_there : (o : Option Denoted) (q : Option DenotedList) (xs : DenotedList) → then_option o (λ x. then_option q (λ ys. Some (denoted_and x ys))) ≡ Some xs
    → (x : Denoted) × (ys : DenotedList) × (o ≡ Some x) × (q ≡ Some ys) × (denoted_and x ys ≡ xs)
both_there o q xs e = grind (arith, common_steps, none_some, some_is)

pub as_told : (o : Option ToldContent) (x : Denoted) → then_option o as_denoted ≡ Some x → o ≡ Some (told x)
as_told o x e = grind (arith, common_steps, none_some, some_is)

-- what holds a value and has a result holds that
pub back : (h : ToldContent) (x y : Denoted) → h ≡ told y → result_as h ≡ Some x → h ≡ told x
back h x y e q = e ∙ ap told (told_of_result h x y e q)

module _ (p : Program) (specs : Specs) (c : Condition) (args : DenotedList) (f : Valuation) (a : IsAssumed p specs c args f) where
  abbrev pub vs : Place → Denoted
  vs = value_at args f

  -- a form stands for a value, and fits what is known of types
  abbrev pub Is : Form → Denoted → Type 0
  Is g x = (stands vs specs.unknowns g ≡ x) × Fits p.types specs vs g

  abbrev pub AreAll : Forms → DenotedList → Type 0
  AreAll gs xs = (stand_each vs specs.unknowns gs ≡ xs) × AllFit p.types specs vs gs

  -- impure calls that were made, as they are required
  abbrev pub IsMetCall : SiteTerm → Type 0
  IsMetCall (constructor_call t ss n) = (xs : DenotedList) → denoted_at_each f ss ≡ Some xs → IsRequired specs t xs
  IsMetCall _ = Unit {0}

  abbrev pub AreDone : List SiteTerm → Type 0
  AreDone done = (w : SiteTerm) → In done w → IsAnsweredAsSaid specs f w w × ((h : ToldContent) → f w ≡ Some h → IsTypedAs p specs w h) × IsMetCall w

  pub pure_made : (w : SiteTerm) → is_pure_made p specs c w ≡ true → Contains c.made w × (is_impure_call w ≡ false)
  pure_made w e = let q = and_parts (has_site c.made w) (not (is_impure_call w)) e in (contains_from_in c.made w (has_in c.made w q.0), not_false_is (is_impure_call w) q.1)

  pub typed_made : (w : SiteTerm) → is_pure_made p specs c w ≡ true → (h : ToldContent) → f w ≡ Some h → IsTypedAs p specs w h
  typed_made w e h q = let k = pure_made w e in a.typed w h k.0 k.1 q

  pub typed_pick : (w : SiteTerm) → is_pure_made p specs c w ≡ true → (h : ToldContent) → f (pick_of w) ≡ Some h → IsTypedAs p specs w h
  typed_pick w e h q = let k = pure_made w e in a.typed_picks w h k.0 k.1 q

  pub said_pick : (w : SiteTerm) → is_pure_made p specs c w ≡ true → IsAnsweredAsSaid specs f w (pick_of w)
  said_pick w e = let k = pure_made w e in a.picks w k.0 k.1

  module _ (done : List SiteTerm) (are_done : AreDone done) where
    pub typed_answer : (w : SiteTerm) → is_answered p specs c done w ≡ true → (h : ToldContent) → f w ≡ Some h → IsTypedAs p specs w h
    typed_answer w e h q = grind (arith, common_steps, or_split (is_pure_made p specs c w) (has_site done w) e, pure_made w, has_in done w, or_split, pure_made, has_in)

    pub said_answer : (w : SiteTerm) → is_answered p specs c done w ≡ true → IsAnsweredAsSaid specs f w w
    said_answer w e = grind (arith, common_steps, or_split (is_pure_made p specs c w) (has_site done w) e, pure_made w, has_in done w, or_split, pure_made, has_in)

    pub met_answer : (w : SiteTerm) → is_answered p specs c done w ≡ true → is_impure_call w ≡ true → IsMetCall w
    met_answer w e q = elim (or_split (is_pure_made p specs c w) (has_site done w) e) [ inl r ↦ absurd (false≢true (sym (pure_made w r).1 ∙ q)) | inr r ↦ (are_done w (has_in done w r)).2 ]

    -- what is unwrapped of a call's answer is its one result or output
    pub unwrapped_is : (s : SiteTerm) (h : ToldContent) (x : Denoted) → is_unwrapped p specs c done s ≡ true → f s ≡ Some (told_just h) → result_as h ≡ Some x → h ≡ told x
    unwrapped_is (constructor_call t ss n) h x m e q = let k = (typed_answer (constructor_call t ss n) m (told_just h) e).1 h refl in one_result h k.0 k.1 q
      where
        one_result : (g : ToldContent) (y : Denoted) → as_denoted g ≡ Some y → result_as g ≡ Some x → g ≡ told x
        one_result g y r v = grind (arith, common_steps, none_some, some_is)
    unwrapped_is (extractor_call t s) h x m e q = let k = (typed_answer (extractor_call t s) m (told_just h) e).1 h refl in one_output h k.0 k.1 q
      where
        one_output : (g : ToldContent) (xs : DenotedList) → told_outputs g ≡ Some xs → result_as g ≡ Some x → g ≡ told x
        one_output g xs r v = grind (arith, common_steps, none_some, some_is)
    unwrapped_is s h x m e q = grind (arith, common_steps)

  -- 1. places of sites
  some_is_at : (s : SiteTerm) (h : ToldContent) (x : Denoted) → f s ≡ Some h → result_as h ≡ Some x → vs (site_at s) ≡ x
  some_is_at s h x e q = ap (λ o. or_false (then_option o result_as)) e ∙ ap or_false q

  pub output_is_at : (s : SiteTerm) (h : ToldContent) (xs : DenotedList) (i : ℕ) (x : Denoted) → f s ≡ Some h → answered_as h ≡ Some xs → slice_get (denoted_list xs) i ≡ Some x → vs (output_at s i) ≡ x
  output_is_at s h xs i x e q r = ap (λ o. part_of i (then_option o answered_as)) e ∙ ap (part_of i) q ∙ ap or_false r

  any_is : (ty : ℕ) (at : Place) (x : Denoted) → vs at ≡ x → is_of_type p.types specs ty x ≡ true → Is (any_of ty at) x
  any_is ty at x e h = (e, subst (λ y. is_of_type p.types specs ty y ≡ true) (sym e) h)

  written_or_is : (at : Place) (o : Option Denoted) (x : Denoted) → vs at ≡ x → ((y : Denoted) → o ≡ Some y → y ≡ x) → Is (written_or at o) x
  written_or_is at o x e h = grind (arith, common_steps, written_stands, written_fits)

  -- 2. answers
  constructed_is : (typed : Bool) (t : ℕ) (ss : SiteTerms) (n : ℕ) (u : SiteTerm) (h : ToldContent) (x : Denoted) → f u ≡ Some h → result_as h ≡ Some x
      → (typed ≡ true → IsTypedAs p specs (constructor_call t ss n) h) → Is (answer_form p specs c typed (constructor_call t ss n) u) x
  constructed_is false t ss n u h x e q k = (some_is_at u h x e q, tt)
  constructed_is true t ss n u h x e q k = by (slice_get p.terms t) ((k refl).0 x q)
    where
      by : (o : Option TermEntry) → are_of_types p.types specs (Some (term_results o)) (denoted_and x no_denoted) ≡ true → Is (typed_at (first_of (term_results o)) (site_at u)) x
      by None g = (some_is_at u h x e q, tt)
      by (Some b) g = any_is b.ret_ty (site_at u) x (some_is_at u h x e q) (and_parts (is_of_type p.types specs b.ret_ty x) true g).0

  typed_output_is : (tys : List ℕ) (i : ℕ) (at place : Place) (xs : DenotedList) (x : Denoted) → are_of_types p.types specs (Some tys) xs ≡ true → slice_get (denoted_list xs) i ≡ Some x
      → vs at ≡ x → Is (typed_at (slice_get tys i) at) x
  typed_output_is tys i at place xs x g r e = grind (arith, common_steps, typed_get p.types specs tys xs g i, any_is, typed_get)

  extracted_is : (typed : Bool) (t : ℕ) (s u : SiteTerm) (h : ToldContent) (x : Denoted) → f u ≡ Some h → result_as h ≡ Some x → (typed ≡ true → IsTypedAs p specs (extractor_call t s) h)
      → Is (answer_form p specs c typed (extractor_call t s) u) x
  extracted_is false t s u h x e q k = (some_is_at u h x e q, tt)
  extracted_is true t s u h x e q k =
      let alone = result_alone h x q in
      typed_output_is (term_args (slice_get p.terms t)) 0 (output_at u 0) (site_at u) (denoted_and x no_denoted) x ((k refl).0 (denoted_and x no_denoted) alone) refl (output_is_at u h (denoted_and x no_denoted) 0 x e alone refl)

  output_is : (typed : Bool) (t : ℕ) (s u : SiteTerm) (i : ℕ) (place : Place) (h : ToldContent) (xs : DenotedList) (x : Denoted) → f u ≡ Some h → answered_as h ≡ Some xs
      → slice_get (denoted_list xs) i ≡ Some x → vs place ≡ x → (typed ≡ true → IsTypedAs p specs (extractor_call t s) h) → Is (output_form p specs c typed (extractor_call t s) u i place) x
  output_is false t s u i place h xs x e q r v k = (v, tt)
  output_is true t s u i place h xs x e q r v k =
      typed_output_is (term_args (slice_get p.terms t)) i (output_at u i) place xs x ((k refl).0 xs q) r (output_is_at u h xs i x e q r)

  -- the answer that is picked
  picked_is : (w : SiteTerm) (h : ToldContent) (x : Denoted) → f (pick_of w) ≡ Some h → result_as h ≡ Some x → Is (answer_form p specs c (is_pure_made p specs c w) w (pick_of w)) x
  picked_is (constructor_call t ss n) h x e q =
      constructed_is (is_pure_made p specs c (constructor_call t ss n)) t ss n (pick_of (constructor_call t ss n)) h x e q (λ k. typed_pick (constructor_call t ss n) k h e)
  picked_is (extractor_call t s) h x e q = extracted_is (is_pure_made p specs c (extractor_call t s)) t s (pick_of (extractor_call t s)) h x e q (λ k. typed_pick (extractor_call t s) k h e)
  picked_is w h x e q = (some_is_at (pick_of w) h x e q, tt)

  picked_output_is : (w : SiteTerm) (i : ℕ) (place : Place) (h : ToldContent) (xs : DenotedList) (x : Denoted) → f (pick_of w) ≡ Some h → answered_as h ≡ Some xs
      → slice_get (denoted_list xs) i ≡ Some x → vs place ≡ x → Is (output_form p specs c (is_pure_made p specs c w) w (pick_of w) i place) x
  picked_output_is (extractor_call t s) i place h xs x e q r v =
      output_is (is_pure_made p specs c (extractor_call t s)) t s (pick_of (extractor_call t s)) i place h xs x e q r v (λ k. typed_pick (extractor_call t s) k h e)
  picked_output_is w i place h xs x e q r v = (v, tt)

  -- 3. fields
  get_is : (gs : List Form) (xs : List Denoted) → AreDescribed p.types specs vs specs.unknowns gs xs → (i : ℕ) (g : Form) (x : Denoted) → slice_get gs i ≡ Some g → slice_get xs i ≡ Some x → Is g x
  get_is (b ∷ gs) (y ∷ xs) d (suc i) g x e q = get_is gs xs d.2 i g x e q
  get_is gs xs d i g x e q = grind (arith, common_steps, none_some, some_is)

  fields_same : (s t i j : ℕ) (xs ys : DenotedList) → variant_of s i xs ≡ variant_of t j ys → xs ≡ ys
  fields_same s t i j xs ys e = cc

  struct_fields_same : (s t : ℕ) (xs ys : DenotedList) → struct_of s xs ≡ struct_of t ys → xs ≡ ys
  struct_fields_same s t xs ys e = cc

  any_if_is : (tys : Option (List ℕ)) (i : ℕ) (at : Place) (g : Form) → any_if (type_at tys i) at ≡ Some g → (l : List ℕ) × (ty : ℕ) × (tys ≡ Some l) × (slice_get l i ≡ Some ty) × (any_of ty at ≡ g)
  any_if_is tys i at g e = grind (arith, common_steps, none_some, some_is)

  variant_field_is : (b : Form) (ty variant : ℕ) (xs : DenotedList) (i : ℕ) (x : Denoted) → Is b (variant_of ty variant xs) → slice_get (denoted_list xs) i ≡ Some x
      → (g : Form) → variant_field_form p variant i b ≡ Some g → Is g x
  variant_field_is (variant_by t j gs) ty variant xs i x h q g e =
      get_is (form_list gs) (denoted_list (stand_each vs specs.unknowns gs)) (forms_described p.types specs vs specs.unknowns gs h.1) i g x e
      (ap (λ ys. slice_get (denoted_list ys) i) (fields_same t ty j variant (stand_each vs specs.unknowns gs) xs h.0) ∙ q)
  variant_field_is (any_of t at) ty variant xs i x h q g e =
      let k = any_if_is (variant_types (slice_get p.types t) variant) i (variant_field_at at t variant i) g e in
      let made = variant_typed p.types specs t (slice_get p.types t) ty variant xs k.0 (subst (λ y. IsOf p.types specs t (slice_get p.types t) y) h.0 (type_says p.types specs t (vs at) h.1)) k.2 in
      subst (λ z. Is z x) k.4
      (any_is k.1 (variant_field_at at t variant i) x (ap (λ y. part_of i (variant_fields y)) h.0 ∙ ap or_false q) (typed_get p.types specs k.0 xs made i k.1 x k.3 q))
  variant_field_is _ ty variant xs i x h q g e = absurd (none_some g e)

  struct_field_is : (b : Form) (ty : ℕ) (xs : DenotedList) (i : ℕ) (x : Denoted) → Is b (struct_of ty xs) → slice_get (denoted_list xs) i ≡ Some x → (g : Form) → struct_field_form p i b ≡ Some g → Is g x
  struct_field_is (struct_by t gs) ty xs i x h q g e =
      get_is (form_list gs) (denoted_list (stand_each vs specs.unknowns gs)) (forms_described p.types specs vs specs.unknowns gs h.1) i g x e
      (ap (λ ys. slice_get (denoted_list ys) i) (struct_fields_same t ty (stand_each vs specs.unknowns gs) xs h.0) ∙ q)
  struct_field_is (any_of t at) ty xs i x h q g e =
      let k = any_if_is (struct_types (slice_get p.types t)) i (struct_field_at at t i) g e in
      let made = struct_typed p.types specs t (slice_get p.types t) ty xs k.0 (subst (λ y. IsOf p.types specs t (slice_get p.types t) y) h.0 (type_says p.types specs t (vs at) h.1)) k.2 in
      subst (λ z. Is z x) k.4
      (any_is k.1 (struct_field_at at t i) x (ap (λ y. part_of i (struct_fields y)) h.0 ∙ ap or_false q) (typed_get p.types specs k.0 xs made i k.1 x k.3 q))
  struct_field_is _ ty xs i x h q g e = absurd (none_some g e)

  -- the fields of a variant, all of them
  pub told_fields_fit : (b : Form) (t variant n : ℕ) (xs : DenotedList) → Is b (variant_of t variant xs) → AllFit p.types specs vs (told_fields p b (is_variant t variant n))
  told_fields_fit (any_of ty at) t variant n xs h = by (variant_types (slice_get p.types ty) variant) refl
    where
      by : (o : Option (List ℕ)) → variant_types (slice_get p.types ty) variant ≡ o → AllFit p.types specs vs (fields_if (variant_field_at at ty variant) o)
      by None e = tt
      by (Some tys) e =
          let made = variant_typed p.types specs ty (slice_get p.types ty) t variant xs tys (subst (λ y. IsOf p.types specs ty (slice_get p.types ty) y) h.0 (type_says p.types specs ty (vs at) h.1)) e in
          (fields_stand p.types specs vs specs.unknowns (variant_field_at at ty variant) 0 tys xs
          (λ i y q. ap (λ l. vs (variant_field_at at ty variant l)) (let z : 0 + i ≡ i = omega arith in z) ∙ ap (λ y. part_of i (variant_fields y)) h.0 ∙ ap or_false q) made).1
  told_fields_fit b t variant n xs h = grind (arith, common_steps)

  or_form_is : (s : SiteTerm) (o : Option Form) (x : Denoted) → f s ≡ Some (told x) → ((g : Form) → o ≡ Some g → Is g x) → Is (or_form (some_at (site_at s)) o) x
  or_form_is s o x e h = grind (arith, common_steps, some_is_at)

  -- 4. sites
  module _ (done : List SiteTerm) (are_done : AreDone done) where
    call_constructed_is : (t : ℕ) (ss : SiteTerms) (n : ℕ) (h : ToldContent) (x : Denoted) → f (constructor_call t ss n) ≡ Some h → result_as h ≡ Some x
        → Is (answer_form p specs c (is_answered p specs c done (constructor_call t ss n)) (constructor_call t ss n) (constructor_call t ss n)) x
    call_constructed_is t ss n h x e q =
        constructed_is (is_answered p specs c done (constructor_call t ss n)) t ss n (constructor_call t ss n) h x e q (λ k. typed_answer done are_done (constructor_call t ss n) k h e)

    call_extracted_is : (t : ℕ) (s : SiteTerm) (h : ToldContent) (x : Denoted) → f (extractor_call t s) ≡ Some h → result_as h ≡ Some x
        → Is (answer_form p specs c (is_answered p specs c done (extractor_call t s)) (extractor_call t s) (extractor_call t s)) x
    call_extracted_is t s h x e q = extracted_is (is_answered p specs c done (extractor_call t s)) t s (extractor_call t s) h x e q (λ k. typed_answer done are_done (extractor_call t s) k h e)

    call_output_is : (t : ℕ) (s : SiteTerm) (i : ℕ) (place : Place) (h : ToldContent) (xs : DenotedList) (x : Denoted) → f (extractor_call t s) ≡ Some h → answered_as h ≡ Some xs
        → slice_get (denoted_list xs) i ≡ Some x → vs place ≡ x
        → Is (output_form p specs c (is_answered p specs c done (extractor_call t s)) (extractor_call t s) (extractor_call t s) i place) x
    call_output_is t s i place h xs x e q r v =
        output_is (is_answered p specs c done (extractor_call t s)) t s (extractor_call t s) i place h xs x e q r v (λ k. typed_answer done are_done (extractor_call t s) k h e)

    part_outputs_is : (s : SiteTerm) (i : ℕ) (place : Place) (xs : DenotedList) (x : Denoted) → f s ≡ Some (told_just (told_parts xs)) → slice_get (denoted_list xs) i ≡ Some x → vs place ≡ x
        → Is (part_outputs_form p specs c done s i place) x
    part_outputs_is (extractor_call t s) i place xs x e r v = call_output_is t s i place (told_just (told_parts xs)) xs x e refl r v
    part_outputs_is (pick_of s) i place xs x e r v = picked_output_is s i place (told_just (told_parts xs)) xs x e refl r v
    part_outputs_is _ i place xs x e r v = (v, tt)

    outputs_is : (s : SiteTerm) (i : ℕ) (place : Place) (xs : DenotedList) (x : Denoted) → f s ≡ Some (told_parts xs) → slice_get (denoted_list xs) i ≡ Some x → vs place ≡ x
        → Is (outputs_form p specs c done s i place) x
    outputs_is (extractor_call t s) i place xs x e r v = call_output_is t s i place (told_parts xs) xs x e refl r v
    outputs_is (pick_of s) i place xs x e r v = picked_output_is s i place (told_parts xs) xs x e refl r v
    outputs_is (some_part s) i place xs x e r v = part_outputs_is s i place xs x (a.held (some_part s) (told_parts xs) e) r v
    outputs_is _ i place xs x e r v = (v, tt)

    mutual
      -- a site that holds a value
      pub told_is : (s : SiteTerm) (x : Denoted) → f s ≡ Some (told x) → Is (form_at p specs c done s) x
      told_is (bool_term b ty) x e = (sym (told_same x (a_truth b) (a.held (bool_term b ty) (told x) e)), tt)
      told_is (int_term z ty) x e =
          written_or_is (site_at (int_term z ty)) (literal_of specs z ty) x (some_is_at (int_term z ty) (told x) x e refl) (λ y q. sym (told_same x y (a.held (int_term z ty) (told x) e y q)))
      told_is (prim_term name) x e =
          written_or_is (site_at (prim_term name)) (constant_of specs name) x (some_is_at (prim_term name) (told x) x e refl) (λ y q. sym (told_same x y (a.held (prim_term name) (told x) e y q)))
      told_is (argument i) x e =
          let k = a.held (argument i) (told x) e in
          let there : slice_get (denoted_list args) i ≡ Some x = k.there ∙ ap Some (sym (told_same x k.part k.held)) in
          typed_output_is (arg_types p c.term) i (argument_at i) (argument_at i) args x a.arguments there (ap or_false there)
      told_is (extractor_call t s) x e = call_extracted_is t s (told x) x e refl
      told_is (constructor_call t ss n) x e = call_constructed_is t ss n (told x) x e refl
      told_is (pick_of s) x e = picked_is s (told x) x e refl
      told_is (variant_made ty variant ss) x e =
          let k = a.held (variant_made ty variant ss) (told x) e in
          let r = each_is ss k.0 k.1 in
          (ap (variant_of ty variant) r.0 ∙ sym (told_same x (variant_of ty variant k.0) k.2), r.1)
      told_is (variant_field s variant i) x e =
          let k = a.held (variant_field s variant i) (told x) e in
          or_form_is (variant_field s variant i) (variant_field_form p variant i (form_at p specs c done s)) x e
          (variant_field_is (form_at p specs c done s) k.0 variant k.1 i x (told_is s (variant_of k.0 variant k.1) k.2) (k.3.there ∙ ap Some (sym (told_same x k.3.part k.3.held))))
      told_is (struct_made ty ss) x e =
          let k = a.held (struct_made ty ss) (told x) e in
          let r = each_is ss k.0 k.1 in
          (ap (struct_of ty) r.0 ∙ sym (told_same x (struct_of ty k.0) k.2), r.1)
      told_is (struct_field s i) x e =
          let k = a.held (struct_field s i) (told x) e in
          or_form_is (struct_field s i) (struct_field_form p i (form_at p specs c done s)) x e
          (struct_field_is (form_at p specs c done s) k.0 k.1 i x (told_is s (struct_of k.0 k.1) k.2) (k.3.there ∙ ap Some (sym (told_same x k.3.part k.3.held))))
      told_is (some_made s) x e = (some_is_at (some_made s) (told x) x e refl, tt)
      told_is (some_part s) x e = part_is s (site_at (some_part s)) x (a.held (some_part s) (told x) e) (some_is_at (some_part s) (told x) x e refl)
      told_is (tuple_part s i) x e =
          let k = a.held (tuple_part s i) (told x) e in
          outputs_is s i (site_at (tuple_part s i)) k.0 x k.1 (k.2.there ∙ ap Some (sym (told_same x k.2.part k.2.held))) (some_is_at (tuple_part s i) (told x) x e refl)
      told_is no_site x e = absurd (a.held no_site (told x) e)

      pub each_is : (ss : SiteTerms) (xs : DenotedList) → denoted_at_each f ss ≡ Some xs → AreAll (forms_at p specs c done ss) xs
      each_is (site_term_and s rest) xs e = grind (arith, common_steps, told_is s, each_is rest, both_there, as_told, stand_each)
      each_is no_site_term xs e = (some_is no_denoted xs e, tt)

      -- a site that holds just a value
      part_is : (s : SiteTerm) (place : Place) (x : Denoted) → f s ≡ Some (told_just (told x)) → vs place ≡ x → Is (part_form p specs c done s place) x
      part_is (extractor_call t s) place x e v = call_extracted_is t s (told_just (told x)) x e refl
      part_is (constructor_call t ss n) place x e v = call_constructed_is t ss n (told_just (told x)) x e refl
      part_is (pick_of s) place x e v = picked_is s (told_just (told x)) x e refl
      part_is (some_made s) place x e v = let k = a.held (some_made s) (told_just (told x)) e in told_is s x (k.1 ∙ ap Some (sym (just_same (told x) k.0 k.2)))
      part_is (bool_term b ty) place x e v = (v, tt)
      part_is (int_term z ty) place x e v = (v, tt)
      part_is (prim_term name) place x e v = (v, tt)
      part_is (argument i) place x e v = (v, tt)
      part_is (variant_made ty variant ss) place x e v = (v, tt)
      part_is (variant_field s variant i) place x e v = (v, tt)
      part_is (struct_made ty ss) place x e v = (v, tt)
      part_is (struct_field s i) place x e v = (v, tt)
      part_is (some_part s) place x e v = (v, tt)
      part_is (tuple_part s i) place x e v = (v, tt)
      part_is no_site place x e v = (v, tt)

    -- the result, unwrapped or not
    pub result_is : (s : SiteTerm) (h : ToldContent) (x : Denoted) → f s ≡ Some h → result_as h ≡ Some x → Is (result_form p specs c done s) x
    result_is (some_made s) h x e q = let k = a.held (some_made s) h e in told_is s x (k.1 ∙ ap Some (only k.0 (ap result_as (sym k.2) ∙ q)))
      where
        only : (g : ToldContent) → result_as (told_just g) ≡ Some x → g ≡ told x
        only (told y) r = ap told (some_is y x r)
        only (told_parts xs) r = absurd (none_some x r)
        only told_nothing r = absurd (none_some x r)
        only (told_just g) r = absurd (none_some x r)
        only told_many r = absurd (none_some x r)
    result_is (some_part s) h x e q = by (is_unwrapped p specs c done s) refl
      where
        by : (b : Bool) → is_unwrapped p specs c done s ≡ b → Is (if b then form_at p specs c done (some_part s) else some_at (site_at (some_part s))) x
        by false n = (some_is_at (some_part s) h x e q, tt)
        by true n = told_is (some_part s) x (e ∙ ap Some (unwrapped_is done are_done s h x n (a.held (some_part s) h e) q))
    result_is (extractor_call t s) h x e q = call_extracted_is t s h x e q
    result_is (constructor_call t ss n) h x e q = call_constructed_is t ss n h x e q
    result_is (pick_of s) h x e q = picked_is s h x e q
    result_is (int_term z ty) h x e q =
        written_or_is (site_at (int_term z ty)) (literal_of specs z ty) x (some_is_at (int_term z ty) h x e q) (λ y r. told_of_result h x y (a.held (int_term z ty) h e y r) q)
    result_is (prim_term name) h x e q =
        written_or_is (site_at (prim_term name)) (constant_of specs name) x (some_is_at (prim_term name) h x e q) (λ y r. told_of_result h x y (a.held (prim_term name) h e y r) q)
    result_is (bool_term b ty) h x e q = told_is (bool_term b ty) x (e ∙ ap Some (back h x (a_truth b) (a.held (bool_term b ty) h e) q))
    result_is (argument i) h x e q = let k = a.held (argument i) h e in told_is (argument i) x (e ∙ ap Some (back h x k.part k.held q))
    result_is (variant_made ty variant ss) h x e q = let k = a.held (variant_made ty variant ss) h e in told_is (variant_made ty variant ss) x (e ∙ ap Some (back h x (variant_of ty variant k.0) k.2 q))
    result_is (variant_field s variant i) h x e q = let k = a.held (variant_field s variant i) h e in told_is (variant_field s variant i) x (e ∙ ap Some (back h x k.3.part k.3.held q))
    result_is (struct_made ty ss) h x e q = let k = a.held (struct_made ty ss) h e in told_is (struct_made ty ss) x (e ∙ ap Some (back h x (struct_of ty k.0) k.2 q))
    result_is (struct_field s i) h x e q = let k = a.held (struct_field s i) h e in told_is (struct_field s i) x (e ∙ ap Some (back h x k.3.part k.3.held q))
    result_is (tuple_part s i) h x e q = let k = a.held (tuple_part s i) h e in told_is (tuple_part s i) x (e ∙ ap Some (back h x k.2.part k.2.held q))
    result_is no_site h x e q = absurd (a.held no_site h e)
