-- The last token, bound.
use Rattle.std.proofs.Common.{◌≡◌, List, [], ◌∷◌, ◌++◌, refl, ap, ◌∙◌, arith}
use Rattle.std.proofs.lemmas.List.{map-append}
use Rattle.std.specs.Prelude.{Option, None, option_map}
use Rattle.std.proofs.lemmas.Grind.{common_steps}
use Rattle.core_syntax.specs.declared.syntax.Ident.{Ident}
use Rattle.text_reader.specs.declared.tokens.Token.{Token}
use Rattle.text_reader.specs.Lexemes.{Lexeme, binder, binder_of, last_bound}
use Rattle.core_syntax.specs.SyntaxViews.{name_view}
use Rattle.text_reader.specs.Views.{token_view, token_views}

twice : (f g : List Lexeme → List Lexeme) (r : Option (List Lexeme)) → option_map f (option_map g r) ≡ option_map (λ us. f (g us)) r
twice f g r = grind (arith, common_steps)

same : (r : Option (List Lexeme)) → r ≡ option_map (λ us. us) r
same r = grind (arith, common_steps)

bound_at_end : (ts : List Lexeme) (t : Lexeme) → last_bound (ts ++ t ∷ []) ≡ option_map (λ us. ts ++ us) (binder_of t)
bound_at_end [] t = same (binder_of t)
bound_at_end (a ∷ []) t = refl
bound_at_end (a ∷ b ∷ ts) t = ap (option_map (λ us. a ∷ us)) (bound_at_end (b ∷ ts) t) ∙ twice (λ us. a ∷ us) (λ us. b ∷ ts ++ us) (binder_of t)

names : (ts : List Lexeme) (r : Option Ident) → option_map (λ us. ts ++ us) (option_map (λ i. binder (name_view i) ∷ []) r) ≡ option_map (λ i. ts ++ binder (name_view i) ∷ []) r
names ts r = grind (arith, common_steps)

pub bound_some : (old new : List Token) (t : Token) (r : Option Ident) → old ≡ new ++ t ∷ [] → binder_of (token_view t) ≡ option_map (λ i. binder (name_view i) ∷ []) r
    → last_bound (token_views old) ≡ option_map (λ i. token_views new ++ binder (name_view i) ∷ []) r
bound_some old new t r e h = grind (arith, common_steps, map-append, bound_at_end, names)

pub bound_none : (old : List Token) → old ≡ [] → last_bound (token_views old) ≡ None
bound_none old e = rw e

pub ruleset bound_parts = (bound_some, bound_none)
