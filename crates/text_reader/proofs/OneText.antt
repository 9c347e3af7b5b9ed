-- A text spells one list of definitions.
use Rattle.std.proofs.Common.{◌≡◌, ℕ, List, Result, Ok}
use Rattle.model.specs.lists.Syntax.{Definition}
use Rattle.text_reader.specs.Lexemes.{Wrong}
use Rattle.text_reader.specs.Definitions.{Spells, reading}
use Rattle.text_reader.proofs.Spelled.{given_if_spelled}

ok_same : {A : Type 0} (x y : A) (r : Result A Wrong) → r ≡ Ok x → r ≡ Ok y → x ≡ y
ok_same x y r a b = cc

pub one_text : (file : ℕ) (text : List ℕ) (ds es : List Definition) → Spells file text ds → Spells file text es → ds ≡ es
one_text file text ds es a b = ok_same ds es (reading file text) (given_if_spelled file text ds a) (given_if_spelled file text es b)
