use Rattle.std.proofs.Common.{sym, subst}
use Rattle.core_rule_sets.specs.SetLists.{AreNoted}
use Rattle.core_rule_sets.proofs.DueSites.{still_open}
use Rattle.core_rule_sets.proofs.NotedSites.{noted_still, noted_unchanged, noted_merged}
use Rattle.core_rule_sets.proofs.equal_sites.EqualSites.merge.Goals as goal

pub invariant_of-self-in_err-insert-2 : goal.invariant_of-self-in_err-insert-2
invariant_of-self-in_err-insert-2 c =
    let s = c.self.inside in
    let mid = c.insert.new.self in
    noted_unchanged s.sets mid c.insert-2.new.self (noted_still s.sets s.noted mid c.args.first c.self.invariant c.in_ok-insert.ensures.updates) c.in_err-insert-2.ensures.err

pub invariant_of-self-in_err-merge : goal.invariant_of-self-in_err-merge
invariant_of-self-in_err-merge c =
    let s = c.self.inside in
    let mid = c.insert.new.self in
    let n = c.insert-2.new.self in
    let noted = noted_still s.sets mid n c.args.second (noted_still s.sets s.noted mid c.args.first c.self.invariant c.in_ok-insert.ensures.updates) c.in_ok-insert-2.ensures.updates in
    subst (λ sets. AreNoted sets n) (sym c.in_err-merge.ensures.err) noted

pub invariant_of-self-2 : goal.invariant_of-self-2
invariant_of-self-2 c =
    let s = c.self.inside in
    let mid = c.insert.new.self in
    let n = c.insert-2.new.self in
    let noted = noted_still s.sets mid n c.args.second (noted_still s.sets s.noted mid c.args.first c.self.invariant c.in_ok-insert.ensures.updates) c.in_ok-insert-2.ensures.updates in
    noted_merged s.sets c.merge.new.self c.args.first c.args.second n noted
    (still_open mid n c.args.second c.in_ok-insert-2.ensures.updates c.args.first c.in_ok-insert.ensures.updates.1)
    c.in_ok-insert-2.ensures.updates.1 c.in_ok-merge.ensures.ok

pub returns : goal.returns
returns c = record { ok = rw c.self.view_is at c.in_ok-merge.ensures.ok }
