use Rattle.std.proofs.Common.{◌≡◌, ◌<◌, not, ℕ, All, length, map, refl, sym, ap, ◌∙◌, subst}
use Rattle.std.proofs.lemmas.Bool.{and_parts}
use Rattle.std.proofs.lemmas.Result.{on_ok_weaker, IfErr-weaker}
use Rattle.model.specs.sites.Sites.{unfold_site}
use Rattle.model.specs.sites.Closure.{ascending, class_at, taken}
use Rattle.core_rule_sets.specs.SiteDemands.{are_equated, constraint_held}
use Rattle.core_rule_sets.specs.Closings.{EndsFull, GoOn, asked_each, with_field_terms}
use Rattle.core_rule_sets.specs.SiteTables.{table_sites}
use Rattle.core_rule_sets.specs.SiteViews.{constraint_view}
use Rattle.core_rule_sets.specs.declared.demanded.Demanded.{Demanded}
use Rattle.core_rule_sets.proofs.ClosingNumbers.{all_from_below}
use Rattle.core_rule_sets.proofs.ClosingClasses.{members_below, Asked, class_asked, class_taken}
use Rattle.core_rule_sets.proofs.DueSites.{due_removed}
use Rattle.core_rule_sets.proofs.FullTables.{class_full}
use Rattle.core_rule_sets.proofs.demanded.Demanded.take_class.Goals as goal

pub ask_each-requires : goal.ask_each-requires
ask_each-requires c =
    let d = c.args.self.now in
    let less : Demanded = record { constraints = d.constraints; equals = c.remove_set_of.new.self; «open» = d.open } in
    record {
      due = due_removed d less c.requires.due refl refl
          (λ a b t. (and_parts (are_equated d a b) (not (are_equated d c.args.site a)) (sym (c.in_ok-members.ensures.rest a b) ∙ t)).0);
    }

pub join_fields-requires-clause-demands : goal.join_fields-requires-clause-demands
join_fields-requires-clause-demands c =
    let d = c.args.self.now in
    let less : Demanded = record { constraints = d.constraints; equals = c.remove_set_of.new.self; «open» = d.open } in
    let k = c.requires.demands in
    let sites = table_sites c.args.table.now in
    let members = c.in_ok-members.members.items in
    let ask = constraint_view c.args.constraint in
    let asked : (a : ℕ) → constraint_held c.ask_each.new.self a ≡ asked_each (constraint_held less) members ask a =
    λ a. c.in_ok-ask_each.ensures.asked a ∙ ap (λ l. asked_each (constraint_held less) l ask a) c.deref.ensures.value in (
      Asked sites d k.0 k.1 c.args.site c.requires.next ask members c.in_ok-members.ensures.members less c.ask_each.new.self refl c.in_ok-members.ensures.rest c.ask_each.ensures.equated asked,
      class_asked sites d k.0 k.1 c.args.site c.requires.next ask members c.in_ok-members.ensures.members less c.ask_each.new.self refl c.in_ok-members.ensures.rest c.ask_each.ensures.equated asked,
    )

pub join_fields-requires-clause-within : goal.join_fields-requires-clause-within
join_fields-requires-clause-within c =
    let d = c.args.self.now in
    let k = c.requires.demands in
    let sites = table_sites c.args.table.now in
    let members = c.in_ok-members.members.items in
    subst (All (λ x. x < length sites)) (sym c.deref-2.ensures.value)
    (all_from_below (length sites) members (members_below sites d k.0 k.1 c.args.site c.requires.next members c.in_ok-members.ensures.members))

pub returns-clause-taken : goal.returns-clause-taken
returns-clause-taken c k h =
    let d = c.args.self.now in
    let less : Demanded = record { constraints = d.constraints; equals = c.remove_set_of.new.self; «open» = d.open } in
    let sites = table_sites c.args.table.now in
    let after = table_sites c.join_fields.new.table in
    let members = c.in_ok-members.members.items in
    let ask = constraint_view c.args.constraint in
    let asked : (a : ℕ) → constraint_held c.ask_each.new.self a ≡ asked_each (constraint_held less) members ask a =
    λ a. c.in_ok-ask_each.ensures.asked a ∙ ap (λ l. asked_each (constraint_held less) l ask a) c.deref.ensures.value in
    let j = Asked sites d k h c.args.site c.requires.next ask members c.in_ok-members.ensures.members less c.ask_each.new.self refl c.in_ok-members.ensures.rest c.ask_each.ensures.equated asked in
    let demands =
    class_asked sites d k h c.args.site c.requires.next ask members c.in_ok-members.ensures.members less c.ask_each.new.self refl c.in_ok-members.ensures.rest c.ask_each.ensures.equated asked in
    on_ok_weaker c.join_fields.result
    (λ goes.
    class_taken sites d k h c.args.site c.requires.next ask members c.in_ok-members.ensures.members less c.ask_each.new.self refl c.in_ok-members.ensures.rest c.ask_each.ensures.equated asked
    c.in_ok-members.ensures.ascending after c.join_fields.new.self
    (subst (λ l. GoOn sites after c.join_fields.new.self (with_field_terms ask j (map (unfold_site sites) l))) c.deref-2.ensures.value goes))
    (c.join_fields.ensures.joined j demands)

pub returns-clause-full : goal.returns-clause-full
returns-clause-full c k h =
    let d = c.args.self.now in
    let less : Demanded = record { constraints = d.constraints; equals = c.remove_set_of.new.self; «open» = d.open } in
    let sites = table_sites c.args.table.now in
    let after = table_sites c.join_fields.new.table in
    let members = c.in_ok-members.members.items in
    let ask = constraint_view c.args.constraint in
    let u = unfold_site sites c.args.site in
    let asked : (a : ℕ) → constraint_held c.ask_each.new.self a ≡ asked_each (constraint_held less) members ask a =
    λ a. c.in_ok-ask_each.ensures.asked a ∙ ap (λ l. asked_each (constraint_held less) l ask a) c.deref.ensures.value in
    let j = Asked sites d k h c.args.site c.requires.next ask members c.in_ok-members.ensures.members less c.ask_each.new.self refl c.in_ok-members.ensures.rest c.ask_each.ensures.equated asked in
    let demands =
    class_asked sites d k h c.args.site c.requires.next ask members c.in_ok-members.ensures.members less c.ask_each.new.self refl c.in_ok-members.ensures.rest c.ask_each.ensures.equated asked in
    IfErr-weaker c.join_fields.result (EndsFull after (with_field_terms ask j (map (unfold_site sites) c.deref-2.result.now)))
    (EndsFull after (taken k (u, ask) (ascending k.made (class_at k.classes u))))
    (λ e full.
    class_full sites after d k h c.args.site c.requires.next ask members c.in_ok-members.ensures.members c.in_ok-members.ensures.ascending e
    (subst (λ l. EndsFull after (with_field_terms ask j (map (unfold_site sites) l)) e) c.deref-2.ensures.value full))
    (c.join_fields.ensures.full j demands)
