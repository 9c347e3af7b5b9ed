use Rattle.std.proofs.Common.{map, sym, subst}
use Rattle.std.specs.Str.{chars}
use Rattle.text_reader.specs.FormViews.{all_view}
use Rattle.text_reader.specs.Views.{Gives, token_views}
use Rattle.text_reader.specs.Definitions.{tokens_in}
use Rattle.text_reader.proofs.Dividing.{divided}
use Rattle.text_reader.proofs.Exact.{no_tokens, no_forms, made_of_forms}
use Rattle.text_reader.proofs.ReadLists.{handed-on}
use Rattle.text_reader.specs.SpecViews.{numbered_view}
use Rattle.text_reader.specs.Verifying.{said_from, verification_in}
use Rattle.text_reader.proofs.verification.Goals as goal

pub returns : goal.returns
returns c = record {
  exact = subst (Gives (λ vs. map numbered_view vs.items) c.verifications.result)
      (sym (made_of_forms c.args.file _ (tokens_in c.args.file c.args.text.now) (said_from 0) (token_views c.in_ok-tokens.tokens.items) (c.in_ok-tokens.ensures.only _ (divided (chars c.args.text.now)))
      (all_view c.in_ok-forms.forms.items) c.in_ok-forms.ensures.read))
      (subst (λ fs. Gives (λ vs. map numbered_view vs.items) c.verifications.result (said_from 0 (all_view fs))) c.deref.ensures.value c.verifications.ensures);
}

pub returns-in_err-tokens : goal.returns-in_err-tokens
returns-in_err-tokens c = record {
  exact = handed-on (λ vs. map numbered_view vs.items) c.from_residual.result c.in_err-tokens.field-0.0 (verification_in c.args.file c.args.text.now) c.from_residual.ensures
      (no_tokens c.args.file _ (tokens_in c.args.file c.args.text.now) (said_from 0) c.in_err-tokens.field-0.0 (c.in_err-tokens.ensures.only _ (divided (chars c.args.text.now))));
}

pub returns-in_err-forms : goal.returns-in_err-forms
returns-in_err-forms c = record {
  exact = handed-on (λ vs. map numbered_view vs.items) c.from_residual-in_err-forms.result c.in_err-forms.field-0.0 (verification_in c.args.file c.args.text.now) c.from_residual-in_err-forms.ensures
      (no_forms c.args.file _ (tokens_in c.args.file c.args.text.now) (said_from 0) (token_views c.in_ok-tokens.tokens.items) (c.in_ok-tokens.ensures.only _ (divided (chars c.args.text.now)))
      c.in_err-forms.field-0.0 c.in_err-forms.ensures.read);
}
