-- Under what a rule's condition assumes, a site that is asked to be a variant or a struct stands for one with as many fields as its type has.
use Rattle.std.proofs.Common.{◌≡◌, ℕ, ◌+◌, ◌==◌, ◌&&◌, not, Bool, true, false, List, [], ◌∷◌, length, Some, None, slice_get, refl, sym, ap, subst, ◌∙◌, arith, eq-eqb}
use Rattle.std.proofs.lemmas.Grind.{common_steps}
use Rattle.std.proofs.lemmas.Bool.{and_parts, and_from}
use Rattle.model.specs.lists.Tables.{TermEntry}
use Rattle.model.specs.lists.Formed.{is_formed_rule}
use Rattle.model.specs.rules.Outcome.{then_option}
use Rattle.model.specs.rules.Values.{variant_types, struct_types}
use Rattle.model.specs.rules.Program.{Program, Kind, a_variant, a_struct, a_call, unknown, kind, kind_of, arg_types}
use Rattle.model.specs.rules.Typed.{TypedPatterns, TypedRule}
use Rattle.model.specs.sites.Sites.{Constraint, is_variant, is_struct, is_bool, is_int, is_prim, is_present, SiteTerm, bool_term, prim_term, argument, extractor_call, constructor_call, pick_of, variant_made, variant_field, struct_made, struct_field, some_part, tuple_part, SiteTerms, site_term_and}
use Rattle.model.specs.sites.Serves.{constant_type, is_type_with_parts, term_args, term_results}
use Rattle.model.specs.visits.Demands.{Demands, demands_of, Visit, asking, pattern_count, output_sites, open_call, open_term, ValuedAll, visit_call, visit_term, asking_all}
use Rattle.model.proofs.Elements.{In, in_either, contains_from_in, some_is, or_right}
use Rattle.model.proofs.Options.{then_some}
use Rattle.laws_typing.specs.WellTypedPrograms.{IsWellTypedProgram}
use Rattle.laws_typing.proofs.WellTypedPrograms.{variant_takes, struct_takes}
use Rattle.laws_sites.proofs.Patterns.{its_kind, term_known}
use Rattle.laws_sites.proofs.PatternParts.{AsMany, as_many_types}
use Rattle.laws_sites.proofs.RuleParts.{rule_parts}
use Rattle.laws_sites.proofs.WithSites.{by_equating}
use Rattle.laws_sites.proofs.WithTypes.{Facts, AtEachTyped, ValuesAtEach, IsGiven, KeptWithTypes, all_fields_each, outputs_each, rule_kept_typed}
use Rattle.laws_trees.proofs.Shapes.{literal_without_parts}
use Rattle.laws_specs.specs.Words.{Denoted, a_truth, variant_of, struct_of, DenotedList, no_denoted, denoted_and, denoted_list}
use Rattle.laws_specs.specs.Specs.{Specs}
use Rattle.laws_specs.specs.Conditions.{ToldContent, told, told_parts, told_just, Valuation, as_denoted, denoted_at, denoted_at_each, told_outputs, answered_as, IsPartHeld, are_of_entries, Condition, is_impure_call, IsAssumed}
use Rattle.laws_specs.proofs.Valuations.{told_same}
use Rattle.laws_specs.proofs.sets.CallsMade.{CallsAre, AllCallsAre}
use Rattle.laws_specs.proofs.sets.Shapes.{is_shaped, are_shaped, plain_shaped, of_type_shaped, of_types_shaped, variant_fields, struct_fields, field_shaped, as_many_fields}

outputs_answered : (h : ToldContent) (xs : DenotedList) → told_outputs h ≡ Some xs → answered_as h ≡ Some xs
outputs_answered h xs e = grind (arith, common_steps)

-- what is assumed of a condition
pub record Assuming : Type 0 where
  pub program : Program
  pub specs : Specs
  pub condition : Condition
  pub args : DenotedList
  pub valuation : Valuation
  pub assumed : IsAssumed program specs condition args valuation
  pub well : IsWellTypedProgram program

module _ (k : Assuming) where
  abbrev p : Program
  p = k.program

  abbrev f : Valuation
  f = k.valuation

  abbrev a : IsAssumed k.program k.specs k.condition k.args k.valuation
  a = k.assumed

  -- a pure call that is made
  abbrev pub IsKnown : SiteTerm → Type 0
  IsKnown u = In k.condition.made u × (is_impure_call u ≡ false)

  -- a value that a site stands for has the fields of a type, where the calls at and below the site are such calls
  abbrev pub IsShapedAt : SiteTerm → ℕ → Type 0
  IsShapedAt s ty = CallsAre IsKnown s → (x : Denoted) → f s ≡ Some (told x) → is_shaped p.types ty x ≡ true

  abbrev pub IsAskedOf : SiteTerm → Constraint → Type 0
  IsAskedOf s (is_variant ty i n) = IsShapedAt s ty × (tys : List ℕ) × (variant_types (slice_get p.types ty) i ≡ Some tys) × (length tys ≡ n)
  IsAskedOf s (is_struct ty n) = IsShapedAt s ty × (tys : List ℕ) × (struct_types (slice_get p.types ty) ≡ Some tys) × (length tys ≡ n)
  IsAskedOf s (is_bool b ty) = Unit {0}
  IsAskedOf s (is_int z ty) = Unit {0}
  IsAskedOf s (is_prim name) = Unit {0}
  IsAskedOf s is_present = Unit {0}

  abbrev pub AreAsked : Demands → Type 0
  AreAsked d = (x : SiteTerm × Constraint) → In d.constraints x → IsAskedOf x.0 x.1

  abbrev facts : Facts
  facts = record { demands = AreAsked; site = IsShapedAt; matched = λ u. Unit {0}; called = λ u. Unit {0} }

  asked_of : (s : SiteTerm) (c : Constraint) (v : Visit) → IsAskedOf s c → AreAsked v.demands → AreAsked (asking s c v).demands
  asked_of s c v m h x i = grind (arith, common_steps, in_either v.demands.constraints ((s, c) ∷ []) x i, in_either)

  all_asked_of : (ss : List SiteTerm) (v : Visit) → AreAsked v.demands → AreAsked (asking_all ss v).demands
  all_asked_of [] v h = h
  all_asked_of (s ∷ ss) v h = all_asked_of ss (asking s is_present v) (asked_of s is_present v tt h)

  -- 1. parts
  part_shaped : (tys : List ℕ) (xs : DenotedList) (i ty : ℕ) (x : Denoted) → are_shaped p.types (Some tys) xs ≡ true → slice_get tys i ≡ Some ty → IsPartHeld xs i (told x) → is_shaped p.types ty x ≡ true
  part_shaped tys xs i ty x h e q = ap (is_shaped p.types ty) (told_same x q.part q.held) ∙ field_shaped p.types tys xs i ty q.part h e q.there

  argument_shaped : (i ty : ℕ) → slice_get (arg_types p k.condition.term) i ≡ Some ty → IsShapedAt (argument i) ty
  argument_shaped i ty e calls x q =
      part_shaped (arg_types p k.condition.term) k.args i ty x (of_types_shaped p.types k.specs (Some (arg_types p k.condition.term)) k.args a.arguments) e (a.held (argument i) (told x) q)

  variant_part_shaped : (s : SiteTerm) (ty i j u : ℕ) (tys : List ℕ) → IsShapedAt s ty → variant_types (slice_get p.types ty) i ≡ Some tys → slice_get tys j ≡ Some u → IsShapedAt (variant_field s i j) u
  variant_part_shaped s ty i j u tys h e g calls x q =
      let b = a.held (variant_field s i j) (told x) q in
      part_shaped tys b.1 j u x (variant_fields p.types ty b.0 i b.1 tys e (h calls (variant_of b.0 i b.1) b.2)) g b.3

  struct_part_shaped : (s : SiteTerm) (ty j u : ℕ) (tys : List ℕ) → IsShapedAt s ty → struct_types (slice_get p.types ty) ≡ Some tys → slice_get tys j ≡ Some u → IsShapedAt (struct_field s j) u
  struct_part_shaped s ty j u tys h e g calls x q =
      let b = a.held (struct_field s j) (told x) q in
      part_shaped tys b.1 j u x (struct_fields p.types ty b.0 b.1 tys e (h calls (struct_of b.0 b.1) b.2)) g b.3

  -- 2. outputs of a call
  abbrev GivesOutputs : SiteTerm → List ℕ → Type 0
  GivesOutputs s tys = CallsAre IsKnown s → (h : ToldContent) (xs : DenotedList) → f s ≡ Some h → told_outputs h ≡ Some xs → are_shaped p.types (Some tys) xs ≡ true

  extracted_outputs : (t : ℕ) (u : SiteTerm) → GivesOutputs (extractor_call t u) (term_args (slice_get p.terms t))
  extracted_outputs t u calls h xs e q =
      let call = extractor_call t u in
      of_types_shaped p.types k.specs (Some (term_args (slice_get p.terms t))) xs ((a.typed call h (contains_from_in k.condition.made call calls.0.0) calls.0.1 e).0 xs (outputs_answered h xs q))

  unwrapped_outputs : (t : ℕ) (u : SiteTerm) → GivesOutputs (some_part (extractor_call t u)) (term_args (slice_get p.terms t))
  unwrapped_outputs t u calls h xs e q =
      let call = extractor_call t u in
      of_types_shaped p.types k.specs (Some (term_args (slice_get p.terms t))) xs ((a.typed call (told_just h) (contains_from_in k.condition.made call calls.0.0) calls.0.1 (a.held (some_part call) h e)).0 xs q)

  picked_outputs : (t : ℕ) (u : SiteTerm) → GivesOutputs (pick_of (extractor_call t u)) (term_args (slice_get p.terms t))
  picked_outputs t u calls h xs e q =
      let call = extractor_call t u in
      of_types_shaped p.types k.specs (Some (term_args (slice_get p.terms t))) xs ((a.typed_picks call h (contains_from_in k.condition.made call calls.0.0) calls.0.1 e).0 xs (outputs_answered h xs q))

  output_shaped : (s : SiteTerm) (tys : List ℕ) (ty : ℕ) → GivesOutputs s tys → tys ≡ ty ∷ [] → IsShapedAt s ty
  output_shaped s tys ty g e calls x q =
      let h : are_shaped p.types (Some (ty ∷ [])) (denoted_and x no_denoted) ≡ true = subst (λ l. are_shaped p.types (Some l) (denoted_and x no_denoted) ≡ true) e (g calls (told x) (denoted_and x no_denoted) q refl) in
      (and_parts (is_shaped p.types ty x) true h).0

  part_of_outputs : (s : SiteTerm) (tys : List ℕ) (j ty : ℕ) → GivesOutputs s tys → slice_get tys j ≡ Some ty → IsShapedAt (tuple_part s j) ty
  part_of_outputs s tys j ty g e calls x q =
      let b = a.held (tuple_part s j) (told x) q in
      part_shaped tys b.0 j ty x (g calls (told_parts b.0) b.0 b.1 refl) e b.2

  outputs_shaped : (s : SiteTerm) (qs : TypedPatterns) (tys : List ℕ) → AsMany qs tys → GivesOutputs s tys → AtEachTyped facts (output_sites s qs) tys
  outputs_shaped s qs tys n g = outputs_each facts s qs tys n (λ ty e. output_shaped s tys ty g e) (λ b c rest e j ty x. part_of_outputs s tys j ty g x)

  call_inputs : (pure multi partial rec infallible : Bool) (t : ℕ) (u : SiteTerm) (args : TypedPatterns) (v : Visit) → AsMany args (term_args (slice_get p.terms t))
      → AtEachTyped facts (open_call (record { pure = pure; multi = multi; partial = partial; rec = rec }) infallible (extractor_call t u) args v).inputs (term_args (slice_get p.terms t))
  call_inputs pure true partial rec infallible t u args v n = outputs_shaped (pick_of (extractor_call t u)) args (term_args (slice_get p.terms t)) n (picked_outputs t u)
  call_inputs pure false partial rec true t u args v n = outputs_shaped (extractor_call t u) args (term_args (slice_get p.terms t)) n (extracted_outputs t u)
  call_inputs pure false partial rec false t u args v n = outputs_shaped (some_part (extractor_call t u)) args (term_args (slice_get p.terms t)) n (unwrapped_outputs t u)

  call_asked : (pure multi partial rec infallible : Bool) (call : SiteTerm) (args : TypedPatterns) (v : Visit) → AreAsked v.demands
      → AreAsked (open_call (record { pure = pure; multi = multi; partial = partial; rec = rec }) infallible call args v).visit.demands
  call_asked pure multi partial rec infallible call h v i = grind (arith, common_steps, asked_of)

  term_opened : (t : ℕ) (e : TermEntry) → slice_get p.terms t ≡ Some e → (n : Kind) → kind p t ≡ n → kind_of e ≡ n → (s : SiteTerm) → IsShapedAt s e.ret_ty → (args : TypedPatterns) → AsMany args e.arg_tys
      → (v : Visit) → AreAsked v.demands → AreAsked (open_term n t s args v).visit.demands × AtEachTyped facts (open_term n t s args v).inputs e.arg_tys
  term_opened t e there (a_variant ty i) q w s h args n v g =
      let b = variant_takes p k.well.parts t e there ty i w in
      let here = subst (IsShapedAt s) b.0 h in (
        asked_of s (is_variant ty i (pattern_count args)) v (here, e.arg_tys, b.1, as_many_types args e.arg_tys n) g,
        all_fields_each facts (variant_field s i) args e.arg_tys n (λ j u r. variant_part_shaped s ty i j u e.arg_tys here b.1 r),
      )
  term_opened t e there (a_struct ty) q w s h args n v g =
      let b = struct_takes p k.well.parts t e there ty w in
      let here = subst (IsShapedAt s) b.0 h in (
        asked_of s (is_struct ty (pattern_count args)) v (here, e.arg_tys, b.1, as_many_types args e.arg_tys n) g,
        all_fields_each facts (struct_field s) args e.arg_tys n (λ j u r. struct_part_shaped s ty j u e.arg_tys here b.1 r),
      )
  term_opened t e there (a_call flags infallible) q w s h args n v g =
      let own : term_args (slice_get p.terms t) ≡ e.arg_tys = ap term_args there in (
        call_asked flags.pure flags.multi flags.partial flags.rec infallible (extractor_call t s) args v g,
        subst (AtEachTyped facts (open_call flags infallible (extractor_call t s) args v).inputs) own (call_inputs flags.pure flags.multi flags.partial flags.rec infallible t s args v (subst (AsMany args) (sym own) n)),
      )
  term_opened t e there unknown q w s h args n v g = absurd (term_known p t e there q)

  -- 3. values
  values_shaped : (ss : SiteTerms) (tys : List ℕ) (xs : DenotedList) → ValuesAtEach facts ss tys → AllCallsAre IsKnown ss → denoted_at_each f ss ≡ Some xs → are_shaped p.types (Some tys) xs ≡ true
  values_shaped (site_term_and s ss) (ty ∷ tys) xs h calls e =
      let b = then_some (denoted_at f s) (λ x. then_option (denoted_at_each f ss) (λ ys. Some (denoted_and x ys))) xs e in
      let c = then_some (denoted_at_each f ss) (λ ys. Some (denoted_and b.0 ys)) xs b.2 in
      let d = then_some (f s) as_denoted b.0 b.1 in
      subst (λ ys. are_shaped p.types (Some (ty ∷ tys)) ys ≡ true) (some_is (denoted_and b.0 c.0) xs c.2)
      (and_from (is_shaped p.types ty b.0) (are_shaped p.types (Some tys) c.0) (h.0 calls.0 b.0 (d.1 ∙ ap Some (is_told d.0 b.0 d.2))) (values_shaped ss tys c.0 h.1 calls.1 c.1))
    where
      is_told : (g : ToldContent) (x : Denoted) → as_denoted g ≡ Some x → g ≡ told x
      is_told g x e = grind (arith, common_steps, some_is)
  values_shaped ss tys xs h calls e = grind (arith, common_steps, some_is)

  variant_shaped : (ty i : ℕ) (ss : SiteTerms) (tys : List ℕ) → variant_types (slice_get p.types ty) i ≡ Some tys → ValuesAtEach facts ss tys → IsShapedAt (variant_made ty i ss) ty
  variant_shaped ty i ss tys e h calls x q =
      let b = a.held (variant_made ty i ss) (told x) q in
      let c = values_shaped ss tys b.0 h calls b.1 in
      ap (is_shaped p.types ty) (told_same x (variant_of ty i b.0) b.2)
      ∙ or_right (not (is_type_with_parts (slice_get p.types ty))) ((ty == ty) && are_shaped p.types (variant_types (slice_get p.types ty) i) b.0)
      (and_from (ty == ty) (are_shaped p.types (variant_types (slice_get p.types ty) i) b.0) (eq-eqb ty ty refl) (ap (λ o. are_shaped p.types o b.0) e ∙ c))

  struct_shaped : (ty : ℕ) (ss : SiteTerms) (tys : List ℕ) → struct_types (slice_get p.types ty) ≡ Some tys → ValuesAtEach facts ss tys → IsShapedAt (struct_made ty ss) ty
  struct_shaped ty ss tys e h calls x q =
      let b = a.held (struct_made ty ss) (told x) q in
      let c = values_shaped ss tys b.0 h calls b.1 in
      ap (is_shaped p.types ty) (told_same x (struct_of ty b.0) b.2)
      ∙ or_right (not (is_type_with_parts (slice_get p.types ty))) ((ty == ty) && are_shaped p.types (struct_types (slice_get p.types ty)) b.0)
      (and_from (ty == ty) (are_shaped p.types (struct_types (slice_get p.types ty)) b.0) (eq-eqb ty ty refl) (ap (λ o. are_shaped p.types o b.0) e ∙ c))

  -- a constructor's result
  result_shaped : (t ty : ℕ) (x : Denoted) → term_results (slice_get p.terms t) ≡ ty ∷ [] → are_of_entries p k.specs (term_results (slice_get p.terms t)) (denoted_and x no_denoted) ≡ true → is_shaped p.types ty x ≡ true
  result_shaped t ty x e h =
      let one : are_shaped p.types (Some (ty ∷ [])) (denoted_and x no_denoted) ≡ true =
      subst (λ l. are_shaped p.types (Some l) (denoted_and x no_denoted) ≡ true) e (of_types_shaped p.types k.specs (Some (term_results (slice_get p.terms t))) (denoted_and x no_denoted) h) in
      (and_parts (is_shaped p.types ty x) true one).0

  call_shaped : (t n ty : ℕ) (ss : SiteTerms) → term_results (slice_get p.terms t) ≡ ty ∷ [] → IsShapedAt (constructor_call t ss n) ty
  call_shaped t n ty ss e calls x q =
      let call = constructor_call t ss n in
      result_shaped t ty x e ((a.typed call (told x) (contains_from_in k.condition.made call calls.0.0) calls.0.1 q).0 x refl)

  answer_shaped : (t n ty : ℕ) (ss : SiteTerms) → term_results (slice_get p.terms t) ≡ ty ∷ [] → IsShapedAt (some_part (constructor_call t ss n)) ty
  answer_shaped t n ty ss e calls x q =
      let call = constructor_call t ss n in
      result_shaped t ty x e ((a.typed call (told_just (told x)) (contains_from_in k.condition.made call calls.0.0) calls.0.1 (a.held (some_part call) (told x) q)).0 x refl)

  pick_shaped : (t n ty : ℕ) (ss : SiteTerms) → term_results (slice_get p.terms t) ≡ ty ∷ [] → IsShapedAt (pick_of (constructor_call t ss n)) ty
  pick_shaped t n ty ss e calls x q =
      let call = constructor_call t ss n in
      result_shaped t ty x e ((a.typed_picks call (told x) (contains_from_in k.condition.made call calls.0.0) calls.0.1 q).0 x refl)

  call_given : (pure multi partial rec : Bool) (t ty : ℕ) (ss : SiteTerms) (v : Visit) → term_results (slice_get p.terms t) ≡ ty ∷ [] → AreAsked v.demands
      → IsGiven facts (visit_call (record { pure = pure; multi = multi; partial = partial; rec = rec }) t ss v) ty
  call_given pure multi partial rec t ty ss v e h = grind (arith, common_steps, answer_shaped, pick_shaped, call_shaped)

  term_given : (t : ℕ) (e : TermEntry) → slice_get p.terms t ≡ Some e → (n : Kind) → kind p t ≡ n → kind_of e ≡ n → (w : ValuedAll) → ValuesAtEach facts w.sites e.arg_tys → AreAsked w.visit.demands → IsGiven facts (visit_term n t w) e.ret_ty
  term_given t e there (a_variant ty i) q m w h g = grind (arith, common_steps, variant_shaped ty i w.sites e.arg_tys, variant_takes, variant_shaped)
  term_given t e there (a_struct ty) q m w h g = grind (arith, common_steps, struct_shaped ty w.sites e.arg_tys, struct_takes, struct_shaped)
  term_given t e there (a_call flags infallible) q m w h g = call_given flags.pure flags.multi flags.partial flags.rec t e.ret_ty w.sites w.visit (ap term_results there) g
  term_given t e there unknown q m w h g = absurd (term_known p t e there q)

  constant_shaped : (name ty : ℕ) → constant_type p name ≡ Some ty → IsShapedAt (prim_term name) ty
  constant_shaped name ty e calls x q =
      of_type_shaped p.types k.specs ty x (a.typed (prim_term name) (told x) (contains_from_in k.condition.made (prim_term name) calls.0) calls.1 q ty x e refl)

  truth_shaped : (b : Bool) (ty : ℕ) → IsShapedAt (bool_term b ty) ty
  truth_shaped b ty calls x q = ap (is_shaped p.types ty) (told_same x (a_truth b) (a.held (bool_term b ty) (told x) q))

  -- 4. rules
  shapes_kept : KeptWithTypes facts p
  shapes_kept = record {
    equates = λ s u ty v m n h. by_equating (λ w. AreAsked w.demands) s u v h h;
    asks_bool = λ s b ty v e h. asked_of s (is_bool b ty) v tt h;
    asks_int = λ s z ty v e h. asked_of s (is_int z ty) v tt h;
    asks_prim = λ s name ty v e u h. asked_of s (is_prim name) v tt h;
    opens = λ t e there x m s i args n v h. term_opened t e there (kind p t) refl (its_kind p t e there) s i args n v h;
    makes_bool = λ b ty v e h. (truth_shaped b ty, h);
    makes_int = λ z ty v e h. ((λ calls x q. plain_shaped p.types ty x (literal_without_parts (slice_get p.types ty) z e)), h);
    makes_prim = λ name ty v e u h. (constant_shaped name ty e, h);
    values = λ t e there x m w g h. term_given t e there (kind p t) refl (its_kind p t e there) w g h;
    asks_all = all_asked_of;
    result = λ s ty v i h. h;
  }

  pub rule_asked : (r : TypedRule) → is_formed_rule p r ≡ true → r.root_term ≡ k.condition.term → AreAsked (demands_of p r)
  rule_asked r formed same =
      let b = rule_parts p r formed in
      let own : arg_types p k.condition.term ≡ b.entry.arg_tys = ap (arg_types p) (sym same) ∙ ap (λ o. elim o as (λ _. List ℕ) [ None ↦ [] | Some x ↦ x.arg_tys ]) b.there in
      rule_kept_typed p facts shapes_kept r b (λ u i. tt) (λ u i. tt)
      (λ j ty v i h. let zero_more : 0 + j ≡ j = omega arith in (argument_shaped (0 + j) ty (ap (slice_get (arg_types p k.condition.term)) zero_more ∙ ap (λ l. slice_get l j) own ∙ i), h))
      (λ x i. absurd i)

  pub variant_fields_there : (s : SiteTerm) (ty i n : ℕ) → IsAskedOf s (is_variant ty i n) → CallsAre IsKnown s → (t : ℕ) (xs : DenotedList) → f s ≡ Some (told (variant_of t i xs)) → length (denoted_list xs) ≡ n
  variant_fields_there s ty i n h calls t xs q = as_many_fields p.types h.1 xs (variant_fields p.types ty t i xs h.1 h.2 (h.0 calls (variant_of t i xs) q)) ∙ h.3

  pub struct_fields_there : (s : SiteTerm) (ty n : ℕ) → IsAskedOf s (is_struct ty n) → CallsAre IsKnown s → (t : ℕ) (xs : DenotedList) → f s ≡ Some (told (struct_of t xs)) → length (denoted_list xs) ≡ n
  struct_fields_there s ty n h calls t xs q = as_many_fields p.types h.1 xs (struct_fields p.types ty t xs h.1 h.2 (h.0 calls (struct_of t xs) q)) ∙ h.3
