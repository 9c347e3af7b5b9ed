-- A text spells definitions exactly where reading it gives them.
use Rattle.std.proofs.Common.{◌≡◌, ℕ, ◌+◌, ◌≤◌, true, List, [], length, map, sym, ap, ◌∙◌, subst, arith}
use Rattle.std.specs.Prelude.{Result, Ok, IfOk}
use Rattle.std.specs.Str.{chars}
use Rattle.model.specs.lists.Syntax.{Definition}
use Rattle.text_reader.specs.Lexemes.{Lexeme, Wrong, ◌>>=◌, erased}
use Rattle.text_reader.specs.FormTrees.{all_spelled, all_depth}
use Rattle.text_reader.specs.Forming.{forms_of}
use Rattle.text_reader.specs.PassedOver.{mark, AreMarked, dashes_are_passed_over}
use Rattle.text_reader.specs.Lexing.{tokens_after}
use Rattle.text_reader.specs.Pieces.{Piece, AreIn, pieces_of, size}
use Rattle.text_reader.specs.Definitions.{definitions_of, Spells, tokens_in, forms_in, reading}
use Rattle.text_reader.proofs.Dividing.{divided}
use Rattle.text_reader.proofs.Only.{only}
use Rattle.text_reader.proofs.Mistakes.{both_give}
use Rattle.text_reader.proofs.FoundForms.{forms_spelled, forms_shallow, forms_fine}
use Rattle.text_reader.proofs.OnlyForms.{forms_read}
use Rattle.text_reader.proofs.Marked.{marked, tokens_marked}

if_ok : {A : Type 0} (P : A → Type 0) (r : Result A Wrong) (x : A) → r ≡ Ok x → IfOk r P → P x
if_ok P r x e h = subst (λ s. IfOk s P) e h

pub text_marked : (file : ℕ) (pieces : List Piece) (tokens : List Lexeme) → tokens_after file 0 pieces [] ≡ Ok tokens → AreMarked tokens
text_marked file pieces tokens lexed = if_ok AreMarked (tokens_after file 0 pieces []) tokens lexed (tokens_marked file 0 pieces [] tt)

pub spelled_if_given : (file : ℕ) (text : List ℕ) (ds : List Definition) → reading file text ≡ Ok ds → Spells file text ds
spelled_if_given file text ds e =
    let end = length text in
    let d = both_give (forms_in file text) definitions_of ds e in
    let forms = d.0 in
    let t = both_give (tokens_in file text) (forms_of file end) forms d.1 in
    let tokens = t.0 in
    record {
      pieces = pieces_of (chars text);
      are = divided (chars text);
      tokens = tokens;
      lexed = t.1;
      forms = forms;
      lists = if_ok (λ gs. all_spelled gs [] ≡ map erased tokens) (forms_of file end tokens) forms t.2 (forms_spelled file end tokens);
      shallow = if_ok (λ gs. all_depth gs ≤ 1000) (forms_of file end tokens) forms t.2 (forms_shallow file end tokens);
      dashes = if_ok (λ gs. dashes_are_passed_over gs ≡ true) (forms_of file end tokens) forms t.2 (forms_fine file end tokens (text_marked file (pieces_of (chars text)) tokens t.1));
      defined = d.2;
    }

-- whatever pieces a text is divided into, they give the same tokens
pub tokens_given : (file : ℕ) (text : List ℕ) (pieces : List Piece) → AreIn 0 (chars text) pieces → tokens_in file text ≡ tokens_after file 0 pieces []
tokens_given file text pieces are =
    let whole = size (chars text) in
    let none : 0 + whole ≡ whole = omega arith in
    sym (only file whole (pieces_of (chars text)) 0 (chars text) [] none (divided (chars text))) ∙ only file whole pieces 0 (chars text) [] none are

pub given_if_spelled : (file : ℕ) (text : List ℕ) (ds : List Definition) → Spells file text ds → reading file text ≡ Ok ds
given_if_spelled file text ds s =
    let end = length text in
    let tokens = tokens_given file text s.pieces s.are ∙ s.lexed in
    let forms = ap (forms_of file end) (sym (marked s.tokens (text_marked file s.pieces s.tokens s.lexed)) ∙ sym (ap (map mark) s.lists)) ∙ forms_read file end s.forms s.shallow s.dashes in
    ap (λ r. (r >>= forms_of file end) >>= definitions_of) tokens
    ∙ ap (λ r. r >>= definitions_of) forms
    ∙ s.defined
