use Rattle.std.proofs.Common.{All, ap, subst, ◌∙◌, ◌≡◌, [], ◌++◌, sym, inl, inr}
use Rattle.core_syntax.specs.SyntaxViews.{definition_views}
use Rattle.model.specs.lists.Elaborated.{named_rules}
use Rattle.model.specs.lists.TermTable.{rule_trees}
use Rattle.core_terms.specs.TermViews.{term_views}
use Rattle.core_typed.specs.Elaborating.{Checks}
use Rattle.core_typed.specs.RuleNaming.{MapsNames, TakesName, AreDefined, IsLeftUndefined, rules_at, terms_at}
use Rattle.core_typed.specs.RuleViews.{rule_views}
use Rattle.core_typed.specs.FirstErrors.{MayBegin}
use Rattle.core_typed.proofs.FirstErrors.{goes_on, may_check}
use Rattle.core_rules.proofs.RuleBreaches.{stages, once_mapped, right_checked}
use Rattle.core_rules.proofs.RulesRefused.{mapped_noted}
use Rattle.core_rules.proofs.StepErrors.{rules_collected, first_untyped}
use Rattle.core_rules.proofs.RulesAtEnd.{rules_end}
use Rattle.core_rules.proofs.RulesTyped.{used_where_called}
use Rattle.core_rules.specs.Constructors.{CallsMade}
use Rattle.core_syntax.specs.Positions.{NotesAt, OccurAmong, positions_of}
use Rattle.core_syntax.proofs.Positioned.{among_same, among_both, among_left, among_right, among_join, notes_parts}
use Rattle.core_syntax.proofs.NotedErrors.{may_both}
use Rattle.core_rules.specs.RulePositions.{templates_positions, with_templates}
use Rattle.core_terms.specs.TermPositions.{terms_positions}
use Rattle.core_rules.proofs.SubstitutedPlaces.{templates_inside}
use Rattle.core_rules.proofs.PartPlaces.{named_places, declared_inside}
use Rattle.core_rules.specs.RuleListTaking.{DoesRules}
use Rattle.core_rules.proofs.RuleListsTaken.{done_to_the_end}
use Rattle.core_rules.proofs.term_env.TermEnv.read_rules.Goals as goal

pub returns-clause-reads : goal.returns-clause-reads
returns-clause-reads c e is k =
    let defs = definition_views c.args.defs.now in
    let env = c.args.self.now in
    let old = c.args.tyenv.now in
    let new = c.collect_rules.new.tyenv in
    let typed = c.in_ok-rules.rules.items in
    let found = c.collect_rules.new.work.errors.items in
    let read = rules_collected env old new (rule_trees defs) (rule_views typed) found
    (subst (λ es. DoesRules env old new (rule_trees defs) [] (rule_views typed) es found) (c.new-work.ensures.errors ∙ c.new.ensures.items) c.in_ok-rules.ensures.exact) in
    let named = c.in_ok-name_rules.ensures.names ∙ ap (λ ts. named_rules (term_views ts) (rule_views typed)) c.deref-2.ensures.value in
    let mapped = subst (λ rs. MapsNames c.replace-errors.result.items c.map_names.new.errors.items (rule_views rs) c.in_ok-rule_map.rule_map) c.deref-3.ensures.value c.in_ok-rule_map.ensures.maps in
    let from_found = subst (λ es. MapsNames es c.map_names.new.errors.items (rule_views c.name_rules.new.rules.items) c.in_ok-rule_map.rule_map) (ap (λ v. v.items) c.replace-errors.ensures.value) mapped in
    let defined = subst (λ ts. Checks c.map_names.new.errors.items c.check_defined.new.errors.items (AreDefined (term_views ts))) c.deref-4.ensures.value c.in_ok-check_defined.ensures.checks in
    let by_name = mapped_noted found c.map_names.new.errors.items (rule_views c.name_rules.new.rules.items) c.in_ok-rule_map.rule_map from_found in
    let more = may_both found c.map_names.new.errors.items c.check_defined.new.errors.items by_name (may_check defined) in
    rules_end env old new defs _ c.in_ok-rules.ensures.keeps typed e is k named found c.map_names.new.errors.items c.check_defined.new.errors.items c.check_constructors.new.errors.items from_found defined (c.in_ok-check_constructors.ensures.checks (λ made none. used_where_called env old new c.in_ok-rules.ensures.keeps.inverse c.in_ok-rules.ensures.keeps e is k found c.check_defined.new.errors.items (rule_trees defs) (rule_views typed) read more (subst (λ ts. All (CallsMade ts) (rule_views typed)) is.terms (subst (λ rs. All (CallsMade (term_views env.terms.items)) (rule_views rs)) c.deref.ensures.value (c.rules_call_made-made.ensures.0 made))) none)) read

pub returns-clause-breach : goal.returns-clause-breach
returns-clause-breach c e is k none =
    let trees = rule_trees (definition_views c.args.defs.now) in
    let env = c.args.self.now in
    let old = c.args.tyenv.now in
    let new = c.collect_rules.new.tyenv in
    let typed = c.in_ok-rules.rules.items in
    let found = c.collect_rules.new.work.errors.items in
    let named = c.map_names.new.errors.items in
    let defined = c.check_defined.new.errors.items in
    let last = c.check_constructors.new.errors.items in
    let nothing = c.new-work.ensures.errors ∙ c.new.ensures.items in
    let all = named_rules e.terms (rule_views typed) in
    let done = subst (λ es. DoesRules env old new trees [] (rule_views typed) es found) nothing c.in_ok-rules.ensures.exact in
    let read = rules_collected env old new trees (rule_views typed) found done in
    let first = first_untyped env old new trees (rule_views typed) found done in
    let by_name = c.in_ok-rule_map.rule_map in
    let rules = rule_views c.deref-3.result.now in
    let same : rules ≡ all =
    ap rule_views c.deref-3.ensures.value ∙ c.in_ok-name_rules.ensures.names ∙ ap (λ ts. named_rules (term_views ts) (rule_views typed)) c.deref-2.ensures.value ∙ ap (λ ts. named_rules ts (rule_views typed)) is.terms in
    let replaced = ap (λ v. v.items) c.replace-errors.ensures.value in
    let mapped = subst (λ es. MapsNames es named rules by_name) replaced c.in_ok-rule_map.ensures.maps in
    let second = subst (λ es. MayBegin (TakesName rules) es named) replaced c.in_ok-rule_map.ensures.first in
    let third = subst (λ ts. MayBegin (IsLeftUndefined (term_views ts)) named defined) c.deref-4.ensures.value c.in_ok-check_defined.ensures.first in
    let checked = subst (λ ts. Checks named defined (AreDefined ts)) (ap term_views c.deref-4.ensures.value ∙ is.terms) c.in_ok-check_defined.ensures.checks in
    stages env old new c.in_ok-rules.ensures.keeps trees typed e is k found named defined last (elim (read e is) [ inl a ↦ inl a.1 | inr b ↦ inr b.0 ])
    (first e is) (goes_on found named (mapped_noted found named rules by_name mapped)) (subst (λ rs. MayBegin (TakesName rs) found named) same second) (once_mapped found named rules all by_name same mapped)
    (goes_on named defined (may_check checked)) third (right_checked named defined checked)
    (goes_on defined last c.in_ok-check_constructors.ensures.notes) c.in_ok-check_constructors.ensures.breach

pub returns-clause-places : goal.returns-clause-places
returns-clause-places c =
    let env = c.args.self.now in
    let defs = positions_of (definition_views c.args.defs.now) in
    let entries = term_views env.terms.items in
    let all = defs ++ terms_positions entries in
    let of_rules = with_templates env defs in
    let typed = c.in_ok-rules.rules.items in
    let found = c.collect_rules.new.work.errors.items in
    let named = c.map_names.new.errors.items in
    let defined = c.check_defined.new.errors.items in
    let last = c.check_constructors.new.errors.items in
    let inside : OccurAmong of_rules all =
    among_join defs (templates_positions env.expand_internal_extractors entries) all (among_left defs (terms_positions entries))
    (among_both (templates_positions env.expand_internal_extractors entries) (terms_positions entries) all (templates_inside env.expand_internal_extractors entries) (among_right defs (terms_positions entries))) in
    let read = subst (λ es. NotesAt of_rules es found) (c.new-work.ensures.errors ∙ c.new.ensures.items) c.in_ok-rules.ensures.places in
    let rules = rules_at (rule_views c.deref-3.result.now) in
    let same : rules ≡ rules_at (rule_views typed) =
    ap (λ rs. rules_at (rule_views rs)) c.deref-3.ensures.value ∙ ap rules_at c.in_ok-name_rules.ensures.names ∙ named_places (term_views c.deref-2.result.now) (rule_views typed) in
    let at_rules : OccurAmong rules all = subst (λ ps. OccurAmong ps all) (sym same) (among_both (rules_at (rule_views typed)) defs all c.in_ok-rules.ensures.stand (among_left defs (terms_positions entries))) in
    let mapped = subst (λ es. NotesAt rules es named) (ap (λ v. v.items) c.replace-errors.ensures.value) c.in_ok-rule_map.ensures.places in
    let terms = terms_at (term_views c.deref-4.result.now) in
    let at_terms : OccurAmong terms all =
    subst (λ ts. OccurAmong (terms_at (term_views ts)) all) (sym c.deref-4.ensures.value)
    (among_both (terms_at entries) (terms_positions entries) all (declared_inside entries) (among_right defs (terms_positions entries))) in
    let by_name = notes_parts of_rules rules all [] found named inside at_rules read mapped in
    let by_terms = notes_parts all terms all [] named defined (among_same all) at_terms by_name c.in_ok-check_defined.ensures.places in
    notes_parts all defs all [] defined last (among_same all) (among_left defs (terms_positions entries)) by_terms c.in_ok-check_constructors.ensures.places

pub returns-clause-exact : goal.returns-clause-exact
returns-clause-exact c =
    let trees = rule_trees (definition_views c.args.defs.now) in
    let env = c.args.self.now in
    let old = c.args.tyenv.now in
    let new = c.collect_rules.new.tyenv in
    let typed = rule_views c.in_ok-rules.rules.items in
    let found = c.collect_rules.new.work.errors.items in
    let named = c.map_names.new.errors.items in
    let defined = c.check_defined.new.errors.items in
    let last = c.check_constructors.new.errors.items in
    let by_name = c.in_ok-rule_map.rule_map in
    let rules = rule_views c.deref-3.result.now in
    let mapped = subst (λ es. MapsNames es named rules by_name) (ap (λ v. v.items) c.replace-errors.ensures.value) c.in_ok-rule_map.ensures.maps in
    let names = mapped_noted found named rules by_name mapped in
    let done = subst (λ es. DoesRules env old new trees [] typed es found) (c.new-work.ensures.errors ∙ c.new.ensures.items) c.in_ok-rules.ensures.exact in
    done_to_the_end env old new trees typed found last done
    (may_both found named last names (may_both named defined last (may_check c.in_ok-check_defined.ensures.checks) c.in_ok-check_constructors.ensures.notes))
