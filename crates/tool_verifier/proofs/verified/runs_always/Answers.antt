use Rattle.std.proofs.Common.{rules, ◌≡◌, ◌∙◌, true, false, Some, slice_get, sym, ap}
use Rattle.std.proofs.lemmas.Option.{slice_get-get_or}
use Rattle.cranelift_isle.specs.SyntaxViews.{definition_views}
use Rattle.cranelift_isle.specs.Program.{is_multi}
use Rattle.cranelift_isle.specs.TypeViews.{type_views}
use Rattle.cranelift_isle.specs.SiteViews.{set_view}
use Rattle.cranelift_isle.specs.Checks.{env_program}
use Rattle.report_queries.specs.Premises.{asks_own_constants}
use Rattle.tool_verifier.proofs.Entries.{runs_under_all}
use Rattle.tool_verifier.proofs.verified.runs_always.Goals as goal

pub returns : goal.returns
returns c =
    let found = c.in_ok-term.ensures.lookup in
    let at : slice_get c.args.lowered.now.terms.items c.args.place ≡ Some c.in_ok-term.term.now =
    ap (λ l. slice_get l c.args.place) (sym c.deref.ensures.value) ∙ slice_get-get_or c.deref.result.now c.args.place c.in_ok-term.term.now found.3.0 ∙ ap Some (sym found.1) in
    let single : is_multi (env_program c.args.lowered.now.termenv) c.in_ok-term.term.now.id.0 ≡ false = search rules in
    let own : asks_own_constants (type_views c.args.lowered.now.tyenv.types.items) (set_view c.in_ok-term.term.now.rules) ≡ true = search rules in
    runs_under_all (definition_views c.args.defs.now) c.args.expand c.args.lowered.now c.args.place c.in_ok-term.term.now c.requires at single c.lowered_sets_compute_as_said.ensures
    (c.demands.ensures (definition_views c.args.defs.now) c.args.expand c.args.lowered.now c.requires) own
