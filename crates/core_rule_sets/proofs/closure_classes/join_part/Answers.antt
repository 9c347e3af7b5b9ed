use Rattle.std.proofs.Common.{rules, ◌≡◌, ℕ, None, Some, refl}
use Rattle.std.specs.HashMap.{get}
use Rattle.model.specs.sites.Sites.{SiteTerm}
use Rattle.core_rule_sets.specs.FieldParts.{HaveOneName, part_of_head}
use Rattle.core_rule_sets.specs.Verdicts.{class_head}
use Rattle.core_rule_sets.specs.contracts.trie_again.BindingPartialEq.TheImpl.{ghosts}
use Rattle.core_rule_sets.proofs.FieldJoins.{found_put, kept_put}
use Rattle.core_rule_sets.proofs.SitesAdded.{weaker_ok}
use Rattle.core_rule_sets.proofs.closure_classes.join_part.Goals as goal

pub returns-in-Some-clause-least : goal.returns-in-Some-clause-least
returns-in-Some-clause-least c =
    let ks = c.args.classes.now in
    let after = c.join.new.classes in
    let p = c.args.part.now in
    let first = c.in-Some.first in
    let found : get ghosts.eq c.args.firsts.now (part_of_head ks p) ≡ Some first = search rules in
    weaker_ok (λ _. (name : ℕ → SiteTerm) → HaveOneName ks name → name first ≡ name p.field → HaveOneName after name)
    (λ _. (name : ℕ → SiteTerm) → HaveOneName ks name → ((g : ℕ) → get ghosts.eq c.args.firsts.now (part_of_head ks p) ≡ Some g → name g ≡ name p.field) → HaveOneName after name)
    c.join.result (λ x l name named same. l name named (same first found)) c.join.ensures.least

pub returns-in_ok-insert-in-None-clause-stayed : goal.returns-in_ok-insert-in-None-clause-stayed
returns-in_ok-insert-in-None-clause-stayed c e =
    let ks = c.args.classes.now in
    let p = c.args.part.now in (
      refl,
      record {
        first = p.field;
        found = found_put c.insert.new.self c.args.firsts.now c.part_of_head-key.result p.field c.in_ok-insert-in-None.ensures.updates.0 (part_of_head ks p) c.part_of_head-key.ensures.part;
        same = refl;
      },
    )

pub returns-in_ok-insert-in-None-clause-firsts : goal.returns-in_ok-insert-in-None-clause-firsts
returns-in_ok-insert-in-None-clause-firsts c =
    let ks = c.args.classes.now in
    let p = c.args.part.now in
    let none : get ghosts.eq c.args.firsts.now (part_of_head ks p) ≡ None = search rules in
    kept_put c.insert.new.self c.args.firsts.now c.part_of_head-key.result p.field c.in_ok-insert-in-None.ensures.updates.0 p.variant (class_head ks p.source) p.place c.part_of_head-key.ensures.part none
