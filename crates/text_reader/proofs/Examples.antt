-- The texts of the examples give the definitions that are said.
use Rattle.std.proofs.Common.{◌≡◌, ℕ, true, List, [], ◌∷◌, ◌++◌, length, refl, sym, ap, ◌∙◌, chars, codes, arith}
use Rattle.std.specs.Prelude.{Result, Ok}
use Rattle.std.proofs.Math.Utf8.{scalars, encodes}
use Rattle.std.proofs.lemmas.Str.{chars-encodes}
use Rattle.std.proofs.lemmas.Grind.{common_steps}
use Rattle.model.specs.lists.Syntax.{Definition}
use Rattle.text_reader.specs.Lexemes.{Wrong, ◌>>=◌, word_token}
use Rattle.text_reader.specs.Numbers.{number_of}
use Rattle.text_reader.specs.Lexing.{tokens_after}
use Rattle.text_reader.specs.Pieces.{Piece, space, line, block, left, right, name, AreIn, after_comment, pieces_of}
use Rattle.text_reader.specs.Forming.{forms_of}
use Rattle.text_reader.specs.Definitions.{definitions_of}
use Rattle.text_reader.specs.Examples.{IsTextOfDefinition, SkippedAreRead, IntegersAreRead, NamesAreRead, ConstantsAreRead, PrimitivesAreRead, EnumerationsAreRead, StructuresAreRead, DeclarationsAreRead, RulesAreRead, ExtractorsAreRead, ExternalConstructorsAreRead, ExternalExtractorsAreRead, ExternalConstantsAreRead, ConversionsAreRead, OthersAreRead, VariantTextsAreRead, FieldTextsAreRead, PatternsAreRead, StatementsAreRead, ExpressionsAreRead}
use Rattle.text_reader.proofs.Spelled.{tokens_given}

-- what is read of these characters
abbrev read_as : List ℕ → List ℕ → Result (List Definition) Wrong
read_as text cs = (tokens_after 0 0 (pieces_of cs) [] >>= forms_of 0 (length text)) >>= definitions_of

defines : (text cs : List ℕ) (d : Definition) → scalars cs ≡ true → encodes cs ≡ text → read_as text cs ≡ Ok (d ∷ []) → IsTextOfDefinition text d
defines text cs d plain is e = ap (read_as text) (ap chars (sym is) ∙ chars-encodes cs plain) ∙ e

-- the same by pieces that the text has
abbrev read_by : List ℕ → List Piece → Result (List Definition) Wrong
read_by text ps = (tokens_after 0 0 ps [] >>= forms_of 0 (length text)) >>= definitions_of

defines_by : (text cs : List ℕ) (ps : List Piece) (d : Definition) → scalars cs ≡ true → encodes cs ≡ text → AreIn 0 cs ps → read_by text ps ≡ Ok (d ∷ []) → IsTextOfDefinition text d
defines_by text cs ps d plain is are e = grind (arith, common_steps, tokens_given, chars-encodes)

-- the pieces of that text
skipped_pieces : List Piece
skipped_pieces =
    space 65279 ∷ space 32 ∷ line (codes " a line") ∷ space 10 ∷ block (codes "(;;);)") ∷ left ∷ name (codes "decl") ∷ space 32 ∷ name (codes "f")
    ∷ space 32 ∷ left ∷ right ∷ space 32 ∷ name (codes "u8") ∷ right ∷ []

skipped_text : List ℕ
skipped_text = 65279 ∷ codes " ; a line" ++ 10 ∷ codes "(;(;;);)(decl f () u8)"

comment_ends : (rest : List ℕ) → after_comment 1 32 (codes "(;;);)" ++ rest) ≡ Ok rest
comment_ends rest = refl

skipped_are : AreIn 0 skipped_text skipped_pieces
unfolding skipped_text skipped_pieces lib.Utf8.encode
skipped_are = (
  _,
  refl,
  refl,
  (
    _,
    refl,
    refl,
    (
      _,
      refl,
      (refl, refl),
      (
        _,
        refl,
        refl,
        (
          _,
          refl,
          comment_ends _,
          (
            _,
            refl,
            refl,
            (
              _,
              refl,
              (refl, refl),
              (
                _,
                refl,
                refl,
                (_, refl, (refl, refl), (_, refl, refl, (_, refl, refl, (_, refl, tt, (_, refl, refl, (_, refl, (refl, refl), (_, refl, tt, refl))))))),
              ),
            ),
          ),
        ),
      ),
    ),
  ),
)

pub skipped_are_read : SkippedAreRead
unfolding skipped_text skipped_pieces lib.Utf8.encode word_token number_of
skipped_are_read = defines_by _ skipped_text skipped_pieces _ refl refl skipped_are refl

pub integers_are_read : IntegersAreRead
unfolding lib.Utf8.encode word_token number_of
integers_are_read = defines _ (codes "(rule (f -0X_1f 0o17 0b101 340282366920938463463374607431768211455) 1_000_)") _ refl refl refl

pub names_are_read : NamesAreRead
unfolding lib.Utf8.encode word_token number_of
names_are_read = defines _ (codes "(decl x-1.y$ () #t'!)") _ refl refl refl

pub constants_are_read : ConstantsAreRead
unfolding lib.Utf8.encode word_token number_of
constants_are_read = defines _ (codes "(extern const $-1 i8)") _ refl refl refl

pub primitives_are_read : PrimitivesAreRead
unfolding lib.Utf8.encode word_token number_of
primitives_are_read = defines _ (codes "(type Reg extern (primitive Reg))") _ refl refl refl

pub enumerations_are_read : EnumerationsAreRead
unfolding lib.Utf8.encode word_token number_of
enumerations_are_read = defines _ (codes "(type Op extern nodebug (enum Add (Shl (by u8))))") _ refl refl refl

pub structures_are_read : StructuresAreRead
unfolding lib.Utf8.encode word_token number_of
structures_are_read = defines _ (codes "(type Pair nodebug (struct (a Reg) (b u8)))") _ refl refl refl

pub declarations_are_read : DeclarationsAreRead
unfolding lib.Utf8.encode word_token number_of
declarations_are_read = defines _ (codes "(decl pure partial imm12 (Value) Imm12)") _ refl refl refl

pub rules_are_read : RulesAreRead
unfolding lib.Utf8.encode word_token number_of
rules_are_read = defines _ (codes "(rule small 1 (lower (iadd x y)) (if-let k (imm12 y)) (add_imm x k))") _ refl refl refl

pub extractors_are_read : ExtractorsAreRead
unfolding lib.Utf8.encode word_token number_of
extractors_are_read = defines _ (codes "(extractor (shifted x) (shl x 2))") _ refl refl refl

pub external_constructors_are_read : ExternalConstructorsAreRead
unfolding lib.Utf8.encode word_token number_of
external_constructors_are_read = defines _ (codes "(extern constructor add add_fn)") _ refl refl refl

pub external_extractors_are_read : ExternalExtractorsAreRead
unfolding lib.Utf8.encode word_token number_of
external_extractors_are_read = defines _ (codes "(extern extractor infallible both both_fn)") _ refl refl refl

pub external_constants_are_read : ExternalConstantsAreRead
unfolding lib.Utf8.encode word_token number_of
external_constants_are_read = defines _ (codes "(extern const $ZERO Reg)") _ refl refl refl

pub conversions_are_read : ConversionsAreRead
unfolding lib.Utf8.encode word_token number_of
conversions_are_read = defines _ (codes "(convert Value Reg put_in)") _ refl refl refl

pub others_are_read : OthersAreRead
unfolding lib.Utf8.encode word_token number_of
others_are_read = defines _ (codes "(spec (f x) -> (bvadd x 1))") _ refl refl refl

pub variants_are_read : VariantTextsAreRead
unfolding lib.Utf8.encode word_token number_of
variants_are_read = defines _ (codes "(type E (enum A (B u8)))") _ refl refl refl

pub fields_are_read : FieldTextsAreRead
unfolding lib.Utf8.encode word_token number_of
fields_are_read = defines _ (codes "(type E (enum (P (a u8) (b u16)) (Q u8 u16) (R)))") _ refl refl refl

pub patterns_are_read : PatternsAreRead
unfolding lib.Utf8.encode word_token number_of
patterns_are_read = defines _ (codes "(rule (f 5 true false $ZERO _ x y @ z (and x 7) (g) (macro-arg 1)) x)") _ refl refl refl

pub statements_are_read : StatementsAreRead
unfolding lib.Utf8.encode word_token number_of
statements_are_read = defines _ (codes "(rule (f x) (if-let 2 (g x)) (if (h x)) x)") _ refl refl refl

pub expressions_are_read : ExpressionsAreRead
unfolding lib.Utf8.encode word_token number_of
expressions_are_read = defines _ (codes "(rule (f x) (let ((a u8 -1) (b u8 x)) (g true false $ZERO a (h))))") _ refl refl refl

pub ruleset rows_read = (skipped_are_read, integers_are_read, names_are_read, constants_are_read, primitives_are_read, enumerations_are_read, structures_are_read, declarations_are_read, rules_are_read, extractors_are_read, external_constructors_are_read, external_extractors_are_read, external_constants_are_read, conversions_are_read, others_are_read, variants_are_read, fields_are_read, patterns_are_read, statements_are_read, expressions_are_read)
