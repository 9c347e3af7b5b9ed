use Rattle.std.proofs.Common.{◌≡◌, drop}
use Rattle.model.specs.trees.Run.{bind_fields}
use Rattle.run_terms.specs.RunViews.{IsBeginningOf, content_list, env_view}
use Rattle.run_terms.proofs.fields.bind_fields.Given as goal

abbrev pub invariant-loop-field : goal.invariant-loop-field
invariant-loop-field l = record {
  place : l.place ≡ l.field-index;
  bound : bind_fields (drop l.field-index l.fields) (content_list (drop l.field-index l.contents)) (env_view l.env.items) ≡ bind_fields l.fields (content_list l.contents) (env_view l.fn.env.items);
  kept : IsBeginningOf l.fn.env.items l.env.items;
}
