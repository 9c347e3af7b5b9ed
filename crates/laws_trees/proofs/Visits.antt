-- A rule of a well-typed program matches under a pick exactly where its demands hold.
use Rattle.std.proofs.Common.{◌≡◌, ℕ, true, List, IsTrue, sym, subst, ◌∙◌, arith}
use Rattle.std.proofs.lemmas.Grind.{common_steps}
use Rattle.model.specs.rules.Values.{Value, args_well_typed}
use Rattle.model.specs.rules.Meaning.{Meaning, one}
use Rattle.model.specs.rules.Program.{Program, arg_types, rules_of}
use Rattle.model.specs.rules.Typed.{TypedRule}
use Rattle.model.specs.rules.Picks.{Pick, IsPick}
use Rattle.model.specs.visits.Demands.{Demands, demands_of}
use Rattle.model.specs.sites.Closure.{DemandsHold}
use Rattle.model.proofs.Elements.{in_from_contains, contains_from_in}
use Rattle.laws_typing.specs.WellTypedPrograms.{IsWellTypedRule, IsWellTypedProgram}
use Rattle.laws_typing.proofs.WellTypedPrograms.{pure_iflets}
use Rattle.laws_sites.proofs.built.BuiltSets.{of_term}
use Rattle.laws_trees.proofs.picks.PickLists.{picks_are_exact_lem}
use Rattle.laws_trees.specs.MatchLaws.{IsTried, VisitsMatch}
use Rattle.laws_trees.proofs.Answered.{call_lists, is_answered}
use Rattle.laws_trees.proofs.Contents.{Given, IsAnswered}
use Rattle.laws_trees.proofs.Demanded.{AreMet, AskEnough, one_is, same_content}
use Rattle.laws_trees.proofs.Rules.{Matches, rule_matches}

abbrev pub given : Program → Meaning → List Value → Pick → Given
given p m args k = record { program = p; meaning = m; args = args; pick = k }

-- what holds of demands whose values are of types
pub met_holds : (p : Program) (m : Meaning) (args : List Value) (k : Pick) (d : Demands) → AreMet (given p m args k) d → DemandsHold m args k d
met_holds p m args k d h = grind (arith, common_steps, in_from_contains)

pub holds_enough : (p : Program) (m : Meaning) (args : List Value) (k : Pick) (d : Demands) → DemandsHold m args k d → AskEnough (given p m args k) d
holds_enough p m args k d h = record {
  asked = λ x i. h.constraints x.0 x.1 (contains_from_in d.constraints x i);
  equal = λ x i ty v w a b.
      (let e = h.equalities x.0 x.1 (contains_from_in d.equalities x i) in
      let first = one_is v e.value (same_content (given p m args k) x.0 (one v) (one e.value) a.content e.first) in
      first ∙ one_is e.value w (same_content (given p m args k) x.1 (one e.value) (one w) e.second b.content));
}

-- what is known of a rule that is tried
pub record Tried (p : Program) (m : Meaning) (args : List Value) (r : TypedRule) (k : Pick) : Type 0 where
  pub rule : IsWellTypedRule p r
  pub typed : IsTrue (args_well_typed p.types (arg_types p r.root_term) args)
  pub pick : IsPick p m args r k
  pub answered : IsAnswered (given p m args k) (demands_of p r)
  pub matches : Matches (given p m args k) r

pub tried : (p : Program) (t : ℕ) (m : Meaning) (args : List Value) (r : TypedRule) (k : Pick) → IsWellTypedProgram p → IsTried p t m args r k → Tried p m args r k
tried p t m args r k h a =
    let b = of_term p t r a.rule in
    let c = h.rules r b.0 in
    let typed : args_well_typed p.types (arg_types p r.root_term) args ≡ true = subst (λ n. args_well_typed p.types (arg_types p n) args ≡ true) (sym b.1) a.typed in
    let pick = (picks_are_exact_lem p m args r).only k a.pick in
    let answered = is_answered (given p m args k) r pick (rules_of p t) a.served a.rule in
    record {
      rule = c;
      typed = typed;
      pick = pick;
      answered = answered;
      matches = rule_matches (given p m args k) r c.formed (pure_iflets c) typed h answered;
    }

pub visits_match_lem : VisitsMatch
visits_match_lem p t m args r k h a =
    let b = tried p t m args r k h a in
    record {
      matching = ((λ i. met_holds p m args k (demands_of p r) (b.matches.met i)), (λ i. b.matches.found (holds_enough p m args k (demands_of p r) i)));
      lists = call_lists (given p m args k) r b.pick;
    }
