use Rattle.std.proofs.Common.{◌≡◌, [], ap, ◌∙◌, sym, subst, rules, arith}
use Rattle.std.proofs.lemmas.Grind.{common_steps}
use Rattle.std.specs.Vec.Iter.{into_iter_items}
use Rattle.std.proofs.lemmas.List.Elements.{All-head, All-tail}
use Rattle.text_reader.specs.FormViews.{all_view, begun_views}
use Rattle.text_reader.specs.Forming.{formed, forms_from, forms_of}
use Rattle.text_reader.specs.Tokens.{TokenIsWithin, TokensAreWithin}
use Rattle.text_reader.specs.Views.{Fails, token_view, token_views}
use Rattle.text_reader.proofs.Running.{goes_on, fails}
use Rattle.text_reader.proofs.forms.forms.Goals as goal

pub loop-token-init : goal.loop-token-init
loop-token-init c = record {
  left = subst (TokensAreWithin c.args.at.file c.args.at.len) (sym c.into_iter-token-iterator.ensures.into_iter_gives.0) c.requires;
  stack = search rules;
  forms = search rules;
  read = rw (c.new-forms.ensures.items, c.new-stack.ensures.items) (ap (λ ts. forms_of c.args.at.file c.args.at.len (token_views ts)) c.into_iter-token-iterator.ensures.into_iter_gives.0);
}

pub add-requires-clause-token : goal.add-requires-clause-token
add-requires-clause-token c =
    let within = TokenIsWithin c.args.at.file c.args.at.len in
    All-head within c.in-Some.token (into_iter_items c.next.new.self) (subst (TokensAreWithin c.args.at.file c.args.at.len) c.in-Some.ensures.steps.0 c.loop-token.invariant.left)

pub loop-token-preserved : goal.loop-token-preserved
loop-token-preserved c =
    let file = c.args.at.file in let end = c.args.at.len in
    let within = TokenIsWithin file end in
    let rest = token_views (into_iter_items c.next.new.self) in
    record {
      left = All-tail within c.in-Some.token (into_iter_items c.next.new.self) (subst (TokensAreWithin file end) c.in-Some.ensures.steps.0 c.loop-token.invariant.left);
      stack = c.in-Ok.ensures.stack;
      forms = c.in-Ok.ensures.forms;
      read =
          goes_on _ (formed (token_view c.in-Some.token) (all_view c.loop-token.forms.items) (begun_views c.loop-token.stack.items)) (λ s. forms_from file end rest s.0 s.1) (forms_of file end (token_views c.args.tokens.items))
          (ap (λ ts. forms_from file end (token_views ts) (all_view c.loop-token.forms.items) (begun_views c.loop-token.stack.items)) (sym c.in-Some.ensures.steps.0) ∙ c.loop-token.invariant.read)
          c.in-Ok.ensures.read;
    }

pub returns-in-Err-clause-read : goal.returns-in-Err-clause-read
returns-in-Err-clause-read c =
    let file = c.args.at.file in let end = c.args.at.len in
    let rest = token_views (into_iter_items c.next.new.self) in
    fails _ (formed (token_view c.in-Some.token) (all_view c.loop-token.forms.items) (begun_views c.loop-token.stack.items)) (λ s. forms_from file end rest s.0 s.1) (forms_of file end (token_views c.args.tokens.items))
    (ap (λ ts. forms_from file end (token_views ts) (all_view c.loop-token.forms.items) (begun_views c.loop-token.stack.items)) (sym c.in-Some.ensures.steps.0) ∙ c.loop-token.invariant.read)
    c.in-Err.ensures.read

pub returns-in-Ok-finish-clause-read : goal.returns-in-Ok-finish-clause-read
returns-in-Ok-finish-clause-read c =
    let file = c.args.at.file in let end = c.args.at.len in
    let none : into_iter_items c.loop-token.token-iterator ≡ [] = grind (arith, common_steps) in
    sym c.loop-token.invariant.read
    ∙ ap (λ ts. forms_from file end (token_views ts) (all_view c.loop-token.forms.items) (begun_views c.loop-token.stack.items)) none
    ∙ c.in-Ok-finish.ensures.read (all_view c.loop-token.forms.items)

pub returns-clause-read : goal.returns-clause-read
returns-clause-read c =
    let file = c.args.at.file in let end = c.args.at.len in
    let none : into_iter_items c.loop-token.token-iterator ≡ [] = grind (arith, common_steps) in
    subst (Fails _)
    (ap (λ ts. forms_from file end (token_views ts) (all_view c.loop-token.forms.items) (begun_views c.loop-token.stack.items)) (sym none) ∙ c.loop-token.invariant.read)
    (c.in-Err-finish.ensures.read (all_view c.loop-token.forms.items))
