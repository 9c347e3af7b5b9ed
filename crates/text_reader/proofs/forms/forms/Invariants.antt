use Rattle.std.specs.Prelude.{◌≡◌}
use Rattle.std.specs.Vec.Iter.{into_iter_items}
use Rattle.text_reader.specs.Forms.{FormsAreWithin, OpensAreWithin}
use Rattle.text_reader.specs.FormViews.{all_view, begun_views}
use Rattle.text_reader.specs.Forming.{forms_from, forms_of}
use Rattle.text_reader.specs.Tokens.{TokensAreWithin}
use Rattle.text_reader.specs.Views.{token_views}
use Rattle.text_reader.proofs.forms.forms.Given as goal

abbrev pub invariant-loop-token : goal.invariant-loop-token
invariant-loop-token l = record {
  left : TokensAreWithin l.at.file l.at.len (into_iter_items l.token-iterator);
  stack : OpensAreWithin l.at.file l.at.len l.stack.items;
  forms : FormsAreWithin l.at.file l.at.len l.forms.items;
  read : forms_from l.at.file l.at.len (token_views (into_iter_items l.token-iterator)) (all_view l.forms.items) (begun_views l.stack.items) ≡ forms_of l.at.file l.at.len (token_views l.fn.tokens.items);
}
