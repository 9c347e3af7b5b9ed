use Rattle.core_terms.specs.TermBreaches.{FirstStandsAt}
use Rattle.core_terms.proofs.Breaches.{begins_among, begins_noted}
use Rattle.std.proofs.Common.{[], ◌++◌, refl, sym, subst}
use Rattle.std.proofs.lemmas.Result.{on_ok_weaker}
use Rattle.model.specs.lists.Tables.{external_constructor, external_extractor}
use Rattle.core_syntax.specs.Positions.{NotesAt, extern_positions}
use Rattle.core_syntax.proofs.Positioned.{notes_among}
use Rattle.core_syntax.specs.SyntaxViews.{extern_view, name_view, position}
use Rattle.core_terms.specs.Externing.{lacks_constructor, lacks_extractor, made_by_this, taken_by_this, ReadsKind}
use Rattle.core_terms.specs.TermPositions.{table_positions, IsPlacedAmong}
use Rattle.core_terms.proofs.NotedPositions.{extern_among, extern_at, extern_rest, placed_among, placed_same}
use Rattle.core_terms.specs.ExternStages.{ReadsExtern}
use Rattle.core_terms.proofs.term_table.TermTable.read_extern.Goals as goal

pub returns-in_ok-name-in-Extractor-clause-reads : goal.returns-in_ok-name-in-Extractor-clause-reads
returns-in_ok-name-in-Extractor-clause-reads c =
    let x = c.in-Extractor in
    let name = c.in_ok-name-in-Extractor.ensures in
    let met = c.meet_name-in-Extractor.new.tyenv in
    on_ok_weaker c.read_extractor.result (λ r.
    subst (λ d. ReadsExtern (extern_view d) c.args.tyenv.now c.args.self.now c.args.errors.now.items met c.read_extractor.new.self c.read_extractor.new.errors.items) (sym x.is) (
      name.met,
      subst (λ k. ReadsKind lacks_extractor (taken_by_this (external_extractor k x.infallible (position x.pos))) (name_view x.term) met c.args.self.now c.args.errors.now.items c.read_extractor.new.self c.read_extractor.new.errors.items) name.number r,
    )) c.read_extractor.ensures.reads

pub returns-in_ok-name-in-Constructor-clause-reads : goal.returns-in_ok-name-in-Constructor-clause-reads
returns-in_ok-name-in-Constructor-clause-reads c =
    let x = c.in-Constructor in
    let name = c.in_ok-name-in-Constructor.ensures in
    let met = c.meet_name.new.tyenv in
    on_ok_weaker c.read_constructor.result (λ r.
    subst (λ d. ReadsExtern (extern_view d) c.args.tyenv.now c.args.self.now c.args.errors.now.items met c.read_constructor.new.self c.read_constructor.new.errors.items) (sym x.is) (
      name.met,
      subst (λ k. ReadsKind lacks_constructor (made_by_this (external_constructor k)) (name_view x.term) met c.args.self.now c.args.errors.now.items c.read_constructor.new.self c.read_constructor.new.errors.items) name.number r,
    )) c.read_constructor.ensures.reads

pub returns-in_ok-name-in-Constructor-clause-places : goal.returns-in_ok-name-in-Constructor-clause-places
returns-in_ok-name-in-Constructor-clause-places c =
    let x = c.in-Constructor in
    let rest = table_positions c.args.self.now in
    on_ok_weaker c.read_constructor.result (λ r.
    subst (λ d. NotesAt (extern_positions (extern_view d) ++ rest) c.args.errors.now.items c.read_constructor.new.errors.items) (sym x.is)
    (notes_among _ _ _ _ (extern_at (position x.pos) (position x.term.1) (position x.func.1) rest) r)) c.read_constructor.ensures.places

pub returns-in_ok-name-in-Constructor-clause-placed : goal.returns-in_ok-name-in-Constructor-clause-placed
returns-in_ok-name-in-Constructor-clause-placed c =
    let x = c.in-Constructor in
    let rest = table_positions c.args.self.now in
    on_ok_weaker c.read_constructor.result (λ r.
    subst (λ d. IsPlacedAmong (extern_positions (extern_view d) ++ rest) c.read_constructor.new.self) (sym x.is)
    (placed_among _ _ _ (extern_rest (position x.pos) (position x.term.1) (position x.func.1) rest) r)) c.read_constructor.ensures.placed

pub returns-in_ok-name-in-Extractor-clause-places : goal.returns-in_ok-name-in-Extractor-clause-places
returns-in_ok-name-in-Extractor-clause-places c =
    let x = c.in-Extractor in
    let rest = table_positions c.args.self.now in
    on_ok_weaker c.read_extractor.result (λ r.
    subst (λ d. NotesAt (extern_positions (extern_view d) ++ rest) c.args.errors.now.items c.read_extractor.new.errors.items) (sym x.is)
    (notes_among _ _ _ _ (extern_among (position x.pos) (position x.term.1) (position x.func.1) rest) r)) c.read_extractor.ensures.places

pub returns-in_ok-name-in-Extractor-clause-placed : goal.returns-in_ok-name-in-Extractor-clause-placed
returns-in_ok-name-in-Extractor-clause-placed c =
    let x = c.in-Extractor in
    let rest = table_positions c.args.self.now in
    on_ok_weaker c.read_extractor.result (λ r.
    subst (λ d. IsPlacedAmong (extern_positions (extern_view d) ++ rest) c.read_extractor.new.self) (sym x.is)
    (placed_among _ _ _ (extern_among (position x.pos) (position x.term.1) (position x.func.1) rest) r)) c.read_extractor.ensures.placed

pub returns-in-Const-clause-placed : goal.returns-in-Const-clause-placed
returns-in-Const-clause-placed c = placed_same c.args.self.now c.args.self.now (extern_positions (extern_view c.args.extern_def.now)) refl

pub returns-in_ok-name-in-Constructor-clause-begins : goal.returns-in_ok-name-in-Constructor-clause-begins
returns-in_ok-name-in-Constructor-clause-begins c =
    let x = c.in-Constructor in
    on_ok_weaker c.read_constructor.result (λ r.
    subst (λ d. FirstStandsAt (extern_positions (extern_view d)) c.args.errors.now.items c.read_constructor.new.errors.items) (sym x.is)
    (begins_among _ _ _ _ (extern_at (position x.pos) (position x.term.1) (position x.func.1) []) (begins_noted _ _ _ r))) c.read_constructor.ensures.places

pub returns-in_ok-name-in-Extractor-clause-begins : goal.returns-in_ok-name-in-Extractor-clause-begins
returns-in_ok-name-in-Extractor-clause-begins c =
    let x = c.in-Extractor in
    on_ok_weaker c.read_extractor.result (λ r.
    subst (λ d. FirstStandsAt (extern_positions (extern_view d)) c.args.errors.now.items c.read_extractor.new.errors.items) (sym x.is)
    (begins_among _ _ _ _ (extern_at (position x.pos) (position x.term.1) (position x.func.1) []) r)) c.read_extractor.ensures.begins
