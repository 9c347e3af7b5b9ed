use Rattle.std.proofs.Common.{◌∙◌, refl, sym}
use Rattle.core_serialize.specs.declared.around.Around.{Around}
use Rattle.core_serialize.specs.PlaceViews.{set_in}
use Rattle.core_serialize.proofs.ListChanges.{extended_in, extends_itself, kept_goes}
use Rattle.core_serialize.proofs.MatchCounts.{still_matched}
use Rattle.core_serialize.proofs.Tables.{is_in_append, is_in_first}
use Rattle.core_serialize.proofs.bodies.go_in.Goals as goal

pub raise_all-requires : goal.raise_all-requires
raise_all-requires c =
    let old = c.args.around.now in
    still_matched (set_in c.args.indexed.now).rules old.matched.counts.items old.matched.counts.items old.sources c.insert_all.new.self refl (λ s e. extended_in old.sources c.insert_all.new.self s c.in_ok-insert_all.ensures.grown e) c.requires.matched

pub returns : goal.returns
returns c =
    let old = c.args.around.now in
    let set = set_in c.args.indexed.now in
    let sites = c.args.sites.now in
    let new : Around = record old { sources = c.insert_all.new.self; brought = c.insert_all-2.new.self; emitted = c.insert_all-3.new.self; matched = c.raise_all.new.matched } in
    record {
      inside = record {
        sources = λ s. c.in_ok-insert_all.ensures.added s ∙ is_in_first s c.number_of.result c.args.source old.sources c.number_of.ensures;
        joined = refl;
        brought = λ s. c.in_ok-insert_all-2.ensures.added s ∙ sym (is_in_append s sites old.brought);
        emitted = λ s. c.in_ok-insert_all-3.ensures.added s ∙ sym (is_in_append s sites old.emitted);
      };
      goes = record {
        sources = c.in_ok-insert_all.ensures.grown;
        joined = refl;
        brought = c.in_ok-insert_all-2.ensures.grown;
        emitted = c.in_ok-insert_all-3.ensures.grown;
        closed = extends_itself old.closed;
        names = refl;
        matched = c.in_ok-raise_all.ensures.raised;
      };
      kept = kept_goes set old new c.in_ok-insert_all.ensures.grown c.in_ok-insert_all-3.ensures.grown refl refl refl c.in_ok-raise_all.ensures.matched c.requires;
    }
