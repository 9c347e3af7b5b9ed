use Rattle.std.proofs.Common.{◌≡◌, [], ◌∷◌, None, refl, sym, inr, ◌∙◌}
use Rattle.std.proofs.lemmas.Result.{on_ok_weaker}
use Rattle.model.proofs.Members.{in_head}
use Rattle.core_syntax.specs.SyntaxViews.{position}
use Rattle.core_types.specs.TypeViews.{fields_view}
use Rattle.model.specs.lists.TermTable.{struct_as_term}
use Rattle.core_terms.specs.TermTables.{term_at}
use Rattle.core_terms.proofs.NotedPositions.{placed_pushed, placed_still}
use Rattle.core_terms.proofs.Making.{none_mapped, some_mapped, added_one, taken_one}
use Rattle.core_terms.proofs.term_table.TermTable.add_struct.Goals as goal

pub returns-then-contains_key-clause-adds : goal.returns-then-contains_key-clause-adds
returns-then-contains_key-clause-adds c =
    let taken = some_mapped (λ t. t.0) _ (sym c.contains_key.ensures.value ∙ c.if-contains_key.true) in
    on_ok_weaker c.report_name.result (λ r. inr (r, taken_one c.args.name.0 [] taken.0 c.args.self.now taken.1)) c.report_name.ensures.noted

pub returns-clause-adds : goal.returns-clause-adds
returns-clause-adds c =
    let free : term_at c.args.self.now c.args.name.0 ≡ None = none_mapped (λ t. t.0) _ (sym c.contains_key.ensures.value ∙ c.if-contains_key.false) in
    on_ok_weaker c.push_made.result (λ p. added_one c.args.name.0 (struct_as_term c.args.name.0 c.args.ty.0 (fields_view c.args.fields.now) (position c.args.pos)) c.args.self.now c.push_made.new.self _ free p) c.push_made.ensures.pushes

pub returns-clause-placed : goal.returns-clause-placed
returns-clause-placed c =
    let at = position c.args.pos in
    on_ok_weaker c.push_made.result (λ p. placed_pushed c.args.self.now c.push_made.new.self _ at (at ∷ []) refl (in_head at []) p.terms) c.push_made.ensures.pushes

pub returns-then-contains_key-clause-placed : goal.returns-then-contains_key-clause-placed
returns-then-contains_key-clause-placed c = placed_still c.report_name.result c.args.self.now _ (position c.args.pos ∷ []) refl
