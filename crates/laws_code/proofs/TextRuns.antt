-- What is written of accepted definitions is read as code that does what the source rules mean.
use Rattle.std.proofs.Common.{◌≡◌, ◌≢◌, ℕ, suc, Bool, true, false, not, List, [], map, Option, Some, None, Contains, sym, ap, ◌∙◌, subst, arith}
use Rattle.std.proofs.lemmas.Grind.{common_steps}
use Rattle.std.proofs.lemmas.Bool.{cases_lt}
use Rattle.std.proofs.lemmas.List.Elements.{All-contains}
use Rattle.model.specs.lists.Syntax.{Definition}
use Rattle.model.specs.lists.Elaborated.{TypedRules}
use Rattle.model.specs.rules.Outcome.{stuck, Outcome}
use Rattle.model.specs.rules.Program.{Program, flags_of, is_multi, kind, rules_of, arg_types, terms_with_rules}
use Rattle.model.specs.rules.Choice.{choice}
use Rattle.model.specs.rules.Picks.{bag}
use Rattle.model.specs.trees.Run.{world_of, at_start}
use Rattle.model.specs.trees.Collects.{Collects}
use Rattle.model.specs.claims.Layers.{own_program, IsAccepted, LoweredTerm, IsLoweredTerm, AreLowered}
use Rattle.model.specs.sites.RuleSets.{IsBuilt}
use Rattle.model.specs.trees.Best.{IsBestTree}
use Rattle.model.proofs.Elements.{in_from_contains, contains_from_in, in_map}
use Rattle.model_code.specs.Code.{Block}
use Rattle.model_code.specs.CodeRuns.{code_run, outcome_of as outcome_of_flow}
use Rattle.model_code.specs.Flat.{flat}
use Rattle.model_code.specs.Modes.{passes_of}
use Rattle.model_code.specs.Saving.{with_moves, WithMovesSaysSame}
use Rattle.model_code.specs.SiteTypes.{types_of}
use Rattle.model_code.specs.TreeCode.{tree_code}
use Rattle.model_code.specs.Notation.{Notation}
use Rattle.model_code.specs.ProgramNotation.{notation_of}
use Rattle.model_code.specs.Pieces.{result_ends}
use Rattle.model_code.specs.Written.{shown_code}
use Rattle.model_code.specs.ReadsBack.{writable}
use Rattle.laws_code.specs.CodeChoices.{CollectsUpTo, MeansItsSource, CodeChoosesAsSource}
use Rattle.laws_code.specs.TypedTrees.{code_by_types}
use Rattle.laws_code.proofs.WellMade.{means_same}
use Rattle.laws_code.specs.WritableCode.{CodeOfAcceptedIsWritable, TextOfAcceptedIsReadBack}
use Rattle.laws_code.specs.ShownRuns.{ShownWorld, shown_run}
use Rattle.laws_code.specs.Meanings.{world_around, one_result, ShownCodeRunsUnderItsMeaning, TextRunsUnderItsMeaning}
use Rattle.laws_code.specs.ShownLaws.{calls_as, outcome_by_number, SaysWhatIsAround, ShownCodeRunsAsCode}
use Rattle.laws_code.specs.CalledAlike.{AreCalledAlike, CodeCallsAlike}
use Rattle.laws_code.specs.TextRuns.{ShownRunsAsChosen, ShownCollectsTheBag, kind_given, TextOfAcceptedSaysItsSource, EachTermHasItsText}

-- 1. no choice gets stuck
abbrev GoesOn : Outcome → Type 0
GoesOn o = o.ending ≢ stuck

-- 2. shown code of a term means what the code does
module _ (law : ShownCodeRunsAsCode) (p : Program) (l : LoweredTerm) (n : Notation) (code : Block) (kind : is_multi p l.term ≡ not (result_ends n)) (wr : writable n false code ≡ true)
    (calls : (is_impure : ℕ → Bool) → AreCalledAlike p n is_impure → calls_as n is_impure code ≡ true) (means : MeansItsSource p l code) where
  shown_chooses : ShownRunsAsChosen p l.term n (shown_code n code)
  shown_chooses single around alike m args typed serves apart says =
      let w = world_of p l.term l.set.sites m args in
      let o = choice p m (rules_of p l.term) args in
      let runs : code_run code w None ≡ o = (means.chooses single m args typed serves apart).0 in
      (λ i. shown_run (shown_code n code) (record { around = around; args = args; multi = sym single i }) None)
      ∙ law n code w around None wr (calls around.is_impure alike) kind (subst (λ (x : Outcome). SaysWhatIsAround n m around x.calls) (sym runs) says) (subst GoesOn (sym runs) (grind arith))
      ∙ ap (outcome_by_number n) runs

  shown_collects : ShownCollectsTheBag p l.term n (shown_code n code)
  shown_collects multi needed around alike m args typed serves apart says =
      let w = world_of p l.term l.set.sites m args in
      let expected = bag p m (rules_of p l.term) args in
      let c = means.collects multi needed m args typed serves apart in
      let same : (most : Option ℕ) → (code_run code w most).calls ≡ [] → GoesOn (code_run code w most) → outcome_by_number n (code_run code w most) ≡ shown_run (shown_code n code) (record { around = around; args = args; multi = true }) most
      = λ most none on.
      sym ((λ i. shown_run (shown_code n code) (record { around = around; args = args; multi = sym multi i }) most)
      ∙ law n code w around most wr (calls around.is_impure alike) kind (subst (SaysWhatIsAround n m around) (sym none) says) on) in (
        subst (λ o. Collects o expected) (same None c.0.calls (grind (arith, common_steps))) (grind (arith, common_steps)),
        λ k. subst (λ o. CollectsUpTo (suc k) o expected) (same (Some (suc k)) (c.1 k).calls (grind (arith, common_steps, cases_lt)))
            (grind (arith, common_steps, c.1 k)),
      )

-- 3. code by types means what its source does
pub record LawsOfText : Type 0 where
  pub chooses : CodeChoosesAsSource
  pub same : WithMovesSaysSame
  pub can : CodeOfAcceptedIsWritable
  pub calls : CodeCallsAlike
  pub shown : ShownCodeRunsAsCode
  pub back : TextOfAcceptedIsReadBack

code_means : (laws : LawsOfText) (defs : List Definition) (expand : Bool) (rules : TypedRules) (l : LoweredTerm) → IsAccepted defs expand rules → IsBuilt (own_program defs rules) l.term l.set → IsBestTree l.set l.tree → (deep : ℕ → Bool) (d : ℕ)
    → MeansItsSource (own_program defs rules) l (code_by_types (own_program defs rules) l deep d)
code_means laws defs expand rules l accepted built best deep d =
    let p = own_program defs rules in
    let types = types_of p (arg_types p l.term) l.set.sites in
    let passes = passes_of types (is_multi p l.term) l.set.sites in
    let cloned = flat (tree_code l.tree l.set.sites passes) deep d in
    means_same p l cloned (with_moves types cloned) (λ w most. ap outcome_of_flow (sym ((laws.same types cloned).runs w most [] at_start))) (laws.chooses defs expand rules l accepted built best passes deep d)

pub text_of_accepted_says_its_source_lem : LawsOfText → TextOfAcceptedSaysItsSource
text_of_accepted_says_its_source_lem laws defs expand rules l accepted built best names whole kind is_logged of_kind deep d =
    let p = own_program defs rules in
    let n : Notation = notation_of p kind is_logged in
    let code : Block = code_by_types p l deep d in
    let means = code_means laws defs expand rules l accepted built best deep d in
    let wr = laws.can defs expand rules l accepted built best kind is_logged deep d in
    let calls : (is_impure : ℕ → Bool) → AreCalledAlike p n is_impure → calls_as n is_impure code ≡ true = λ is_impure alike. laws.calls defs expand rules l accepted built best n is_impure alike deep d in
    record {
      shown = shown_code n code;
      read = laws.back defs expand rules l accepted built best names whole kind is_logged deep d;
      chooses = shown_chooses laws.shown p l n code of_kind wr calls means;
      collects = shown_collects laws.shown p l n code of_kind wr calls means;
    }

-- each term with rules has its tree
pub lowered_there : (p : Program) (terms : List LoweredTerm) (t : ℕ) → AreLowered p terms → Contains (terms_with_rules p) t → (l : LoweredTerm) × Contains terms l × (l.term ≡ t)
lowered_there p terms t low known =
    let i = in_map (λ (l : LoweredTerm). l.term) terms t (in_from_contains (map (λ (l : LoweredTerm). l.term) terms) t (subst (λ ts. Contains ts t) (sym low.each) known)) in
    (i.0, contains_from_in terms i.0 i.1, i.2)

pub each_term_has_its_text_lem : LawsOfText → EachTermHasItsText
each_term_has_its_text_lem laws defs expand types terms rules lowered answers t known =
    let p = own_program defs rules in
    let l = lowered_there p lowered t answers.trees known in
    let it : IsLoweredTerm p l.0 = All-contains (IsLoweredTerm p) lowered l.0 answers.trees.lowered l.1 in
    let flags = flags_of (kind p l.0.term) in (
      l.0,
      l.1,
      l.2,
      λ names whole is_logged deep d. record {
        means = code_means laws defs expand rules l.0 answers.accepted it.built it.best deep d;
        text = text_of_accepted_says_its_source_lem laws defs expand rules l.0 answers.accepted it.built it.best names whole (kind_given p l.0.term) is_logged (grind (arith, common_steps)) deep d;
      },
    )

-- 4. under the meaning that the functions around it are
pub text_runs_under_its_meaning_lem : LawsOfText → ShownCodeRunsUnderItsMeaning → TextRunsUnderItsMeaning
text_runs_under_its_meaning_lem laws law defs expand rules l accepted built best kind is_logged deep d of_kind single around args m alike is typed serves apart =
    let p = own_program defs rules in
    let n : Notation = notation_of p kind is_logged in
    let code : Block = code_by_types p l deep d in
    let w : ShownWorld = one_result around args in
    let means = code_means laws defs expand rules l accepted built best deep d in
    let runs : code_run code (world_of p l.term l.set.sites m args) None ≡ choice p m (rules_of p l.term) args = (means.chooses single m args typed serves apart).0 in
    let same : code_run code (world_of p l.term l.set.sites m args) None ≡ code_run code (world_around n l.set.sites w (shown_run (shown_code n code) w None).calls) None
    = λ i. code_run code (record { sites = l.set.sites; args = args; meaning = is i; multi = single i }) None in
    let result = sym same ∙ runs in
    law n code w l.set.sites None (laws.can defs expand rules l accepted built best kind is_logged deep d) (laws.calls defs expand rules l accepted built best n around.is_impure alike deep d) (ap not (sym of_kind))
    (subst GoesOn (sym result) (grind arith))
    ∙ ap (outcome_by_number n) result
