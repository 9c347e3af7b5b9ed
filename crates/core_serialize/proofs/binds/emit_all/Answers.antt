use Rattle.std.proofs.Common.{◌∙◌, ◌||◌, ℕ, drop, refl, ap}
use Rattle.model.specs.trees.Places.{is_in}
use Rattle.core_serialize.specs.PlaceViews.{set_in}
use Rattle.core_serialize.proofs.ListedSites.{after_closed, after_within, closed_grown, emitted_after}
use Rattle.core_serialize.proofs.MatchCounts.{same_itself}
use Rattle.core_serialize.proofs.binds.emit_all.Goals as goal

pub returns : goal.returns
returns c =
    let sites = (set_in c.args.indexed.now).sites in
    let sources = c.args.indexed.now.can_grow.sources in
    let old = c.args.around.now in
    let used = c.args.used.now in
    let closed = old.closed in
    let after = c.list_all.new.listed in
    let emitted = old.emitted in
    let next = c.insert_all.new.self in
    let behind = c.behind-listed.ensures ∙ ap (λ n. drop n after) c.len-start.ensures in
    let grows = λ (s : ℕ). c.in_ok-insert_all.ensures.added s ∙ ap (λ l. is_in s l || is_in s emitted) behind in
    let kept = c.requires in
    record {
      emitted = emitted_after sites sources used closed after emitted next kept.closed kept.within c.in_ok-list_all.ensures grows;
      emits = record { sources = refl; joined = refl; brought = refl; emitted = c.in_ok-insert_all.ensures.grown; closed = closed_grown sites sources used closed after emitted next kept.closed kept.within c.in_ok-list_all.ensures grows; names = refl; matched = same_itself old.matched };
      kept = record {
        closed = after_closed sites sources used closed after emitted next kept.closed kept.within c.in_ok-list_all.ensures grows;
        within = after_within sites sources used closed after emitted next kept.closed kept.within c.in_ok-list_all.ensures grows;
        named = kept.named;
        matched = kept.matched;
      };
    }
