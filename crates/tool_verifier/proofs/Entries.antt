-- An entry of an answer of `lower` runs as the chosen rule.
use Rattle.std.proofs.Common.{◌≡◌, ℕ, Bool, true, false, List, map, None, Some, slice_get, All, sym, ap, ◌∙◌, subst}
use Rattle.std.proofs.lemmas.List.Elements.{All-get_or}
use Rattle.std.proofs.lemmas.Option.{slice_get_within, get_or_from_slice_get}
use Rattle.cranelift_isle.specs.Syntax.{Definition}
use Rattle.cranelift_isle.specs.Tables.{TermEntry, TypeEntry}
use Rattle.cranelift_isle.specs.Meaning.{Meaning}
use Rattle.cranelift_isle.specs.Program.{Program, kind_of, flags_of, unknown, is_multi, rules_of}
use Rattle.cranelift_isle.specs.Values.{Value}
use Rattle.cranelift_isle.specs.Serves.{TellsConstantsApart}
use Rattle.cranelift_isle.specs.Layers.{own_program, IsLoweredTerm}
use Rattle.cranelift_isle.specs.SetMeanings.{DemandsAreWhole}
use Rattle.model.proofs.Mapped.{get_map}
use Rattle.cranelift_isle.specs.TypeViews.{type_views}
use Rattle.cranelift_isle.specs.SiteViews.{set_view}
use Rattle.cranelift_isle.specs.Checks.{env_program}
use Rattle.cranelift_isle.specs.Lowerings.{lowered_view, lowered_views, DemandWhole, IsLowered, OfAccepted}
use Rattle.cranelift_isle.specs.declared.lower.LoweredTerm as Code
use Rattle.cranelift_isle.specs.declared.lower.Lowered.{Lowered}
use Rattle.report_queries.specs.Premises.{asks_own_constants}
use Rattle.laws_specs.specs.ConditionLaws.{IsCalled}
use Rattle.laws_specs.specs.Meets.{Atoms, AnswersAsSaid}
use Rattle.laws_specs.specs.Specs.{Specs}
use Rattle.laws_specs.specs.SetConditions.{LoweredSetsComputeAsSaid}
use Rattle.tool_verifier.specs.Verified.{CanRun, run_of, RunsAsRule, AreRight, RunsWhereApart, RunsAlways}
use Rattle.tool_verifier.proofs.OwnConstants.{own_apart}

abbrev multi_among : List TermEntry → ℕ → Bool
multi_among terms t = (flags_of (elim (slice_get terms t) [ None ↦ unknown | Some e ↦ kind_of e ])).multi

-- what holds of all elements that are mapped holds of the one at a place
all_at : {X Y : Type 0} (P : Y → Type 0) (f : X → Y) (xs : List X) (i : ℕ) (x : X) → slice_get xs i ≡ Some x → All P (map f xs) → P (f x)
all_at P f xs i x at all =
    let e = get_map f xs i x at in
    subst P (get_or_from_slice_get (map f xs) i (f x) (f x) e) (All-get_or P (map f xs) i (f x) (slice_get_within (map f xs) i (f x) e) all)

module _ (defs : List Definition) (expand : Bool) (l : Lowered) (place : ℕ) (t : Code.LoweredTerm) (h : IsLowered defs expand l)
    (at : slice_get l.terms.items place ≡ Some t) (single : is_multi (env_program l.termenv) t.id.0 ≡ false) (law : LoweredSetsComputeAsSaid) where
  abbrev p : Program
  p = own_program defs h.0

  entry : IsLoweredTerm p (lowered_view t)
  entry = all_at (IsLoweredTerm p) lowered_view l.terms.items place t at h.1.trees.lowered

  one : is_multi p t.id.0 ≡ false
  one = ap (λ (ts : List TermEntry). multi_among ts t.id.0) (sym h.1.environments.rows.table) ∙ single

  chosen : (m : Meaning) (args : List Value) → CanRun p t.id.0 m args → TellsConstantsApart p m (rules_of p t.id.0) → RunsAsRule p (lowered_view t) m args
  chosen m args can apart = let r = entry.headline.runs one m args can.typed can.served apart in record { same = r.0; once = r.1 }

  said : (specs : Specs) (d : Atoms) (m : Meaning) (args : List Value) → AreRight p specs d (lowered_view t) → IsCalled p specs t.id.0 d m args (run_of p (lowered_view t) m args).calls
      → TellsConstantsApart p m (rules_of p t.id.0) → AnswersAsSaid p specs t.id.0 d args (run_of p (lowered_view t) m args)
  said specs d m args right called apart = law defs expand h.0 (lowered_view t) specs d m args h.1.accepted entry one right called apart

  pub runs_apart : RunsWhereApart defs expand (lowered_view t)
  runs_apart = record { rules = h.0; accepted = h.1.accepted; single = one; runs = chosen; computes = said }

  module _ (whole : OfAccepted defs expand (DemandWhole (lowered_views l.terms.items))) (own : asks_own_constants (type_views l.tyenv.types.items) (set_view t.rules) ≡ true) where
    apart : (m : Meaning) → TellsConstantsApart p m (rules_of p t.id.0)
    apart = own_apart p t.id.0 (set_view t.rules) entry.built
        (all_at (λ x. DemandsAreWhole p x.term) lowered_view l.terms.items place t at (whole h.0 h.1.accepted)) (h.1.accepted.checkable.built t.id.0)
        (ap (λ (ts : List TypeEntry). asks_own_constants ts (set_view t.rules)) (sym h.1.environments.types.types) ∙ own)

    pub runs_under_all : RunsAlways defs expand (lowered_view t)
    runs_under_all = record {
      rules = h.0;
      accepted = h.1.accepted;
      single = one;
      runs = λ m args can. chosen m args can (apart m);
      computes = λ specs d m args right called. said specs d m args right called (apart m);
    }
