-- The tokens and the pieces that data is, where things are written as a notation says.
use Rattle.std.specs.Prelude.{List, map}
use Rattle.core_syntax.specs.SyntaxViews.{position}
use Rattle.model_code.specs.Tokens as M
use Rattle.model_code.specs.Notation as N
use Rattle.model_code.specs.Notation.{Notation}
use Rattle.model_code.specs.Pieces as P
use Rattle.rust_text.specs.declared.tokens.Word.{Word}
use Rattle.rust_text.specs.declared.tokens.Word.TheVariants as W
use Rattle.rust_text.specs.declared.tokens.Owner.{Owner}
use Rattle.rust_text.specs.declared.tokens.Owner.TheVariants as O
use Rattle.rust_text.specs.declared.tokens.Callee.{Callee}
use Rattle.rust_text.specs.declared.tokens.Callee.TheVariants as C
use Rattle.rust_text.specs.declared.tokens.RustToken.{RustToken}
use Rattle.rust_text.specs.declared.tokens.RustToken.TheVariants as T
use Rattle.rust_text.specs.declared.tokens.Piece.{Piece}
use Rattle.rust_text.specs.declared.tokens.Piece.TheVariants as S

abbrev pub word_view : Word → M.Word
word_view W.Let = M.let_word
word_view W.Mut = M.mut_word
word_view W.Ref = M.ref_word
word_view W.If = M.if_word
word_view W.Else = M.else_word
word_view W.Match = M.match_word
word_view W.While = M.while_word
word_view W.Return = M.return_word
word_view W.Break = M.break_word
word_view W.Some = M.some_word
word_view W.None = M.none_word
word_view W.True = M.true_word
word_view W.False = M.false_word
word_view W.Ctx = M.ctx_word
word_view W.Returns = M.returns_word
word_view W.Extend = M.extend_word
word_view W.Len = M.len_word
word_view W.Most = M.most_word
word_view W.Clone = M.clone_word
word_view W.Iter = M.iter_word
word_view W.Next = M.next_word
word_view W.Unreachable = M.unreachable_word
word_view W.Opening = M.opening
word_view W.Closing = M.closing
word_view W.OpeningBrace = M.opening_brace
word_view W.ClosingBrace = M.closing_brace
word_view W.Comma = M.comma
word_view W.Colon = M.colon
word_view W.Semicolon = M.semicolon
word_view W.Dot = M.dot
word_view W.TwoDots = M.two_dots
word_view W.Underscore = M.underscore
word_view W.Arrow = M.arrow
word_view W.Equals = M.equals
word_view W.EqualTo = M.equal_to
word_view W.Unlike = M.unlike
word_view W.AtLeast = M.at_least
word_view W.Ampersand = M.ampersand
word_view W.Star = M.star

abbrev pub owner_view : Owner → M.Owner
owner_view (O.Variant ty variant) = M.variant_owner ty.0 variant.0
owner_view (O.Struct ty) = M.struct_owner ty.0

abbrev pub callee_view : Callee → N.Callee
callee_view (C.Extractor term) = N.extractor_of term.0
callee_view (C.Constructor term) = N.constructor_of term.0

abbrev pub token_view : Notation → RustToken → M.Token
token_view p (T.Word w) = M.word (word_view w)
token_view p (T.Variable site) = M.variable_name site
token_view p (T.Parameter index) = M.parameter_name index
token_view p (T.Part index) = M.part_name index
token_view p (T.Int val ty) = M.number val (p.ending ty.0)
token_view p (T.Constant name) = M.constant_name name.0
token_view p (T.Owner o) = M.owner_name (owner_view o)
token_view p (T.Field o index) = M.field_name (owner_view o) index
token_view p (T.Function f) = M.function_name (p.function (callee_view f))
token_view p (T.List f) = M.list_name (p.list (callee_view f))
token_view p (T.Label n) = M.label_name n
token_view p T.NoMatch = M.no_match

abbrev pub piece_view : Notation → Piece → P.CodePiece
piece_view p (S.Token t) = P.token (token_view p t)
piece_view p S.Space = P.space
piece_view p (S.SetIn depth) = P.set_in depth
piece_view p S.LineEnd = P.line_end
piece_view p (S.RuleComment pos) = P.rule_comment (position pos)
piece_view p (S.LogLine pos) = P.log_line (position pos)

abbrev pub piece_views : Notation → List Piece → List P.CodePiece
piece_views p pieces = map (piece_view p) pieces
