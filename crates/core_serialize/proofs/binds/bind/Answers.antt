use Rattle.std.proofs.Common.{◌∙◌, ◌++◌, ap, subst}
use Rattle.model.specs.trees.Places.{all_below, is_in}
use Rattle.core_containers.specs.Places.{Extends}
use Rattle.core_serialize.specs.PlaceViews.{set_in}
use Rattle.core_serialize.proofs.binds.bind.Goals as goal

pub emit_all-requires : goal.emit_all-requires
emit_all-requires c = record { closed = c.requires.closed; within = λ s e. ap (is_in s) c.in_ok-bound.ensures.back ∙ c.requires.within s e; named = c.requires.named; matched = c.requires.matched }

pub returns : goal.returns
returns c =
    let sites = (set_in c.args.indexed.now).sites in
    let back = c.in_ok-bound.ensures.back in
    let new = c.emit_all.new.around in
    let emits = c.in_ok-emit_all.ensures.emits in
    record {
      binds = c.in_ok-bound.ensures.binds;
      emitted = λ s. c.in_ok-emit_all.ensures.emitted s ∙ ap (λ l. is_in s (all_below sites c.args.used.now ++ l)) back;
      emits = record { sources = emits.sources; joined = emits.joined; brought = emits.brought; emitted = subst (λ l. Extends l new.emitted) back emits.emitted; closed = emits.closed; names = emits.names; matched = emits.matched };
      kept = c.in_ok-emit_all.ensures.kept;
    }
