-- Pieces by a notation of other types and terms that are the same.
use Rattle.std.proofs.Common.{◌≡◌, ℕ, ◌+◌, ◌<◌, Bool, ◌≤◌, List, [], ◌∷◌, ◌++◌, length, get_or, drop, slice_get, refl, sym, ap, ◌∙◌}
use Rattle.std.proofs.lemmas.List.{append_assoc, append-nil, at_drop_more, at_drop_all}
use Rattle.model.specs.rules.Program.{Program}
use Rattle.model_code.specs.Notation as N
use Rattle.model_code.specs.Notation.{Notation, ReturnForm}
use Rattle.model_code.specs.Pieces as P
use Rattle.model_code.specs.Tokens as M
use Rattle.model_code.specs.ProgramNotation.{ending_in, function_number, list_of, notation_of, outside_of}
use Rattle.model_code.specs.Spelling.{Names, piece_text, spelled}
use Rattle.rust_text.specs.declared.tokens.RustToken.{RustToken}
use Rattle.rust_text.specs.declared.tokens.RustToken.TheVariants as T
use Rattle.rust_text.specs.declared.tokens.Piece.{Piece}
use Rattle.rust_text.specs.declared.tokens.Piece.TheVariants as S
use Rattle.rust_text.specs.ProgramNames.{NameSetting, IsProgramOf, program_in, notation_in}
use Rattle.rust_text.specs.TokenViews.{callee_view, token_view, piece_view, piece_views}

module _ (s : NameSetting) (p : Program) (kind : ReturnForm) (is_logged : Bool) (of : IsProgramOf s p) where
  same_function : (f : N.Callee) → function_number p f ≡ function_number (program_in s) f
  same_function f = ap (λ ts. function_number (record { types = s.types; constants = []; terms = ts; rules = [] }) f) of.terms

  same_list : (f : N.Callee) → list_of p (outside_of p f) f ≡ list_of (program_in s) (outside_of (program_in s) f) f
  same_list f = ap (λ ts. list_of (record { types = s.types; constants = []; terms = ts; rules = [] }) (outside_of (record { types = s.types; constants = []; terms = ts; rules = [] }) f) f) of.terms

  same_ending : (ty : ℕ) → ending_in (slice_get p.types ty) ty ≡ ending_in (slice_get s.types ty) ty
  same_ending ty = ap (λ ts. ending_in (slice_get ts ty) ty) of.types

  same_token : (t : RustToken) → token_view (notation_of p kind is_logged) t ≡ token_view (notation_in s) t
  same_token (T.Word w) = refl
  same_token (T.Variable site) = refl
  same_token (T.Parameter index) = refl
  same_token (T.Part index) = refl
  same_token (T.Int val ty) = ap (M.number val) (same_ending ty.0)
  same_token (T.Constant name) = refl
  same_token (T.Owner o) = refl
  same_token (T.Field o index) = refl
  same_token (T.Function f) = ap M.function_name (same_function (callee_view f))
  same_token (T.List f) = ap M.list_name (same_list (callee_view f))
  same_token (T.Label n) = refl
  same_token T.NoMatch = refl

  same_piece : (x : Piece) → piece_view (notation_of p kind is_logged) x ≡ piece_view (notation_in s) x
  same_piece (S.Token t) = ap P.token (same_token t)
  same_piece S.Space = refl
  same_piece (S.SetIn depth) = refl
  same_piece S.LineEnd = refl
  same_piece (S.RuleComment pos) = refl
  same_piece (S.LogLine pos) = refl

  pub same_pieces : (xs : List Piece) → piece_views (notation_of p kind is_logged) xs ≡ piece_views (notation_in s) xs
  same_pieces [] = refl
  same_pieces (x ∷ xs) = ap (λ y. y ∷ piece_views (notation_of p kind is_logged) xs) (same_piece x) ∙ ap (λ ys. piece_view (notation_in s) x ∷ ys) (same_pieces xs)

-- one piece more
module _ (names : Names) (p : Notation) (xs : List Piece) (i : ℕ) where
  left : List Piece → List ℕ
  left ys = spelled names (piece_views p ys)

  pub one_piece_more : (x : Piece) (old new whole : List ℕ) → i < length xs → x ≡ get_or xs i x → new ≡ old ++ piece_text names (piece_view p x)
      → old ++ spelled names (piece_views p (drop i xs)) ≡ whole → new ++ spelled names (piece_views p (drop (i + 1) xs)) ≡ whole
  one_piece_more x old new whole h e more w =
      let rest = spelled names (piece_views p (drop (i + 1) xs)) in
      ap (λ t. t ++ rest) more ∙ append_assoc old (piece_text names (piece_view p x)) rest
      ∙ ap (λ y. old ++ (piece_text names (piece_view p y) ++ rest)) e
      ∙ ap (λ t. old ++ t) (sym (at_drop_more (λ ys. spelled names (piece_views p ys)) xs i x h)) ∙ w

  pub no_piece_more : (old whole : List ℕ) → length xs ≤ i → old ++ spelled names (piece_views p (drop i xs)) ≡ whole → old ≡ whole
  no_piece_more old whole h w = sym (append-nil old) ∙ ap (λ t. old ++ t) (sym (at_drop_all (λ ys. spelled names (piece_views p ys)) xs i h)) ∙ w
