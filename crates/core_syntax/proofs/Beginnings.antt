-- Lists that hold what they held, and a beginning of some others.
use Rattle.std.proofs.Common.{◌≡◌, ℕ, ◌+◌, ◌<◌, ◌≤◌, List, [], ◌++◌, length, get_or, drop, refl, sym, ap, ◌∙◌}
use Rattle.std.specs.Prelude.{Result, Ok, Err, OnErr}
use Rattle.std.proofs.lemmas.List.{append-nil, append_assoc, at_drop_more, at_drop_all}
use Rattle.core_syntax.specs.declared.syntax.Pattern.{Pattern}
use Rattle.core_syntax.specs.declared.syntax.Expr.{Expr}
use Rattle.core_syntax.specs.declared.syntax.LetDef.{LetDef}
use Rattle.model.specs.lists.Syntax.{Position, Name}
use Rattle.core_syntax.specs.Expressions.{terms_of_expr, terms_of_exprs, terms_of_lets}
use Rattle.core_syntax.specs.Places.{HoldsAllBut, HoldsBeginning}
use Rattle.core_syntax.specs.SyntaxViews.{pattern_view, pattern_views, expr_view, expr_views, let_views}
use Rattle.model.specs.lists.TermTable.{terms_of, terms_of_all}

pub when_refused : {A E : Type 0} (P : Type 0) (r : Result A E) → P → OnErr r P
when_refused P (Ok x) h = tt
when_refused P (Err e) h = h

module _ {X : Type 0} (held others : List X) where
  pub begins : (now : List X) → now ≡ held → HoldsBeginning held others now
  begins now e = (others, record { noted = []; kept = e ∙ sym (append-nil held); begun = refl })

  -- a beginning of the next part is one of all
  pub goes_on : (mid last part rest now : List X) → last ≡ part ++ rest → HoldsAllBut held others last mid → HoldsBeginning mid part now → HoldsBeginning held others now
  goes_on mid last part rest now split so more = (
    more.0 ++ rest,
    record {
      noted = so.noted ++ more.1.noted;
      kept = more.1.kept ∙ ap (λ l. l ++ more.1.noted) so.kept ∙ append_assoc held so.noted more.1.noted;
      begun =
          append_assoc so.noted more.1.noted (more.0 ++ rest)
          ∙ ap (λ l. so.noted ++ l) (sym (append_assoc more.1.noted more.0 rest) ∙ ap (λ l. l ++ rest) more.1.begun ∙ sym split)
          ∙ so.begun;
    },
  )

pub patterns_split : (parts : List Pattern) (i : ℕ) (x : Pattern) → i < length parts → x ≡ get_or parts i x
    → terms_of_all (pattern_views (drop i parts)) ≡ terms_of (pattern_view x) ++ terms_of_all (pattern_views (drop (i + 1) parts))
patterns_split parts i x h at =
    at_drop_more (λ l. terms_of_all (pattern_views l)) parts i x h ∙ ap (λ y. terms_of (pattern_view y) ++ terms_of_all (pattern_views (drop (i + 1) parts))) (sym at)

pub exprs_split : (parts : List Expr) (i : ℕ) (x : Expr) → i < length parts → x ≡ get_or parts i x
    → terms_of_exprs (expr_views (drop i parts)) ≡ terms_of_expr (expr_view x) ++ terms_of_exprs (expr_views (drop (i + 1) parts))
exprs_split parts i x h at =
    at_drop_more (λ l. terms_of_exprs (expr_views l)) parts i x h ∙ ap (λ y. terms_of_expr (expr_view y) ++ terms_of_exprs (expr_views (drop (i + 1) parts))) (sym at)

pub lets_split : (parts : List LetDef) (i : ℕ) (x : LetDef) (value : Expr) (after : List (Position × Name)) → i < length parts → x ≡ get_or parts i x → value ≡ x.val.value
    → terms_of_lets (let_views (drop i parts)) ++ after ≡ terms_of_expr (expr_view value) ++ (terms_of_lets (let_views (drop (i + 1) parts)) ++ after)
lets_split parts i x value after h at same =
    ap (λ l. l ++ after)
    (at_drop_more (λ l. terms_of_lets (let_views l)) parts i x h ∙ ap (λ y. terms_of_expr (expr_view y.val.value) ++ terms_of_lets (let_views (drop (i + 1) parts))) (sym at)
    ∙ ap (λ y. terms_of_expr (expr_view y) ++ terms_of_lets (let_views (drop (i + 1) parts))) (sym same))
    ∙ append_assoc (terms_of_expr (expr_view value)) (terms_of_lets (let_views (drop (i + 1) parts))) after

pub lets_end : (parts : List LetDef) (i : ℕ) (body value : Expr) → length parts ≤ i → value ≡ body
    → terms_of_lets (let_views (drop i parts)) ++ terms_of_expr (expr_view body) ≡ terms_of_expr (expr_view value) ++ []
lets_end parts i body value h same =
    at_drop_all (λ l. terms_of_lets (let_views l) ++ terms_of_expr (expr_view body)) parts i h ∙ ap (λ y. terms_of_expr (expr_view y)) (sym same)
    ∙ sym (append-nil (terms_of_expr (expr_view value)))

pub while_refused : {X A E : Type 0} (held others mid part now : List X) (r : Result A E) (last : List X) → last ≡ part ++ [] → HoldsAllBut held others last mid
    → OnErr r (HoldsBeginning mid part now) → OnErr r (HoldsBeginning held others now)
while_refused held others mid part now (Ok x) last split so h = tt
while_refused held others mid part now (Err e) last split so h = goes_on held others mid last part [] now split so h
