-- Texts that are closed, functions that are read back, and near ones that aren't.
use Rattle.std.specs.Prelude.{◌≡◌, ◌++◌, ◌∷◌, [], ◌==◌, ℕ, Bool, true, false, List, length, Some, None, codes}
use Rattle.model.specs.sites.Sites.{is_prim, is_variant}
use Rattle.model_code.specs.Code.{variable, name_written, Pass, as_it_is, lent, cloned, Block, no_statement, statement, match_on, if_equal, give, labelled, unless_let, no_code_arm, code_arm}
use Rattle.model_code.specs.Samples.{use_of, plain, somewhere, code, one_statement}
use Rattle.model_code.specs.Tokens.{if_word, none_word, closing_brace, opening_brace, equal_to, ampersand, star, Token, word, variable_name, constant_name}
use Rattle.model_code.specs.Notation.{gives_one, gives_option, gives_many}
use Rattle.model_code.specs.Pieces.{tokens_of}
use Rattle.model_code.specs.Written.{code_tokens, shown_code, function_body}
use Rattle.model_code.specs.Spelling.{Names, spelled}
use Rattle.model_code.specs.Lexing.{lexed, IsWholeText, IsWholeWord, pieces_lexed}
use Rattle.model_code.specs.ReadsBack.{writable, read_function}
use Rattle.model_code.specs.Closed.{is_closed, all_named, stays_quoted, in_quotation}
use Rattle.model_code.specs.CodeTextSamples.{notation, names, below, text_of, many, leaving, read_as, words, wholly, called}

-- `a \" // b`, and the same without the backslash
abbrev pub escaped_text : List ℕ
escaped_text = codes "a " ++ (92 ∷ (34 ∷ codes " // b"))

abbrev pub bare_text : List ℕ
bare_text = codes "a " ++ (34 ∷ codes " // b")

-- functions that are called `"`
abbrev pub quoting : Names
quoting = record names { function = λ f. 34 ∷ [] }

-- whether the text of code has as many words and marks as its pieces
abbrev pub as_many_words : Names → Block → Bool
as_many_words given code = length (lexed (spelled given (function_body (notation gives_one) code))) == length (pieces_lexed given (function_body (notation gives_one) code))

-- constants of an enum's type, compared with what is handed on so
abbrev pub looked_at : Pass → Block
looked_at pass =
    statement (labelled
    (statement (unless_let (use_of (variable 2) pass) (is_prim 1) [])
    (statement (match_on (use_of (variable 2) pass) (code_arm (is_prim 1) [] (one_statement (give somewhere (plain 3))) no_code_arm))
    (statement (match_on (use_of (variable 2) pass) (code_arm (is_prim 1) [] no_statement (code_arm (is_variant 1 0 1) (None ∷ []) no_statement no_code_arm))) no_statement)))) no_statement

abbrev pub looked_at_text : List ℕ
looked_at_text =
    below (codes "    'at1: {")
    (below (codes "        if *&v2 != X { break 'at1 }")
    (below (codes "        if *&v2 == X {")
    (below (codes "            // Rule at a.isle line 7.")
    (below (codes "            return v3;")
    (below (codes "        }")
    (below (codes "        match &v2 {")
    (below (codes "            _ if *&v2 == X => {")
    (below (codes "            }")
    (below (codes "            &E::A { .. } => {")
    (below (codes "            }")
    (below (codes "            _ => {}")
    (below (codes "        }")
    (below (codes "    }")
    (below (codes "    unreachable!(..)")
    (below (codes "}") [])))))))))))))))

-- if FIRST == SECOND {}
abbrev pub comparison : List Token → Token → List Token
comparison first second = word if_word ∷ (first ++ (word equal_to ∷ (second ∷ words (opening_brace ∷ closing_brace ∷ []) [])))

pub record TextsAreJudged : Type 0 where
  pub path_closed : is_closed (codes "E::A") ≡ true
  pub raw_closed : is_closed (codes "C::r#type") ≡ true
  pub number_closed : is_closed (codes "-0x1f_u32") ≡ true
  pub call_closed : is_closed (codes "unreachable!(" ++ (in_quotation escaped_text ++ codes ", 5)")) ≡ true
  -- quotes that don't end, and a slash
  pub quote_open : is_closed (codes "a" ++ (34 ∷ codes "b")) ≡ false
  pub call_open : is_closed (codes "unreachable!(" ++ (in_quotation bare_text ++ codes ", 5)")) ≡ false
  pub slash_open : is_closed (codes "a/b") ≡ false
  pub escape_open : stays_quoted bare_text ≡ false
  -- they aren't read by themselves
  pub quote_not_whole : IsWholeText (34 ∷ []) → ⊥
  pub slash_not_whole : IsWholeText (47 ∷ []) → ⊥
  -- a name that ends with a dot runs together with `.clone()`, and a field that ends with a colon with its `:`
  pub dot_open : is_closed (codes "S.") ≡ false
  pub colon_no_name : all_named (codes "x:") ≡ false
  pub raw_name : all_named (codes "r#type") ≡ true
  pub colon_not_whole : IsWholeWord (58 ∷ []) → ⊥
  -- `==` is one mark, and neither `= =` nor `===`; so are `=>`, `..` and `::`; labels and `r#type` are words
  pub marks_read : lexed (codes "if v2==*v3 => ..E::A{") ≡ codes "if" ∷ (codes "v2" ∷ (codes "==" ∷ (codes "*" ∷ (codes "v3" ∷ (codes "=>" ∷ (codes ".." ∷ (codes "E" ∷ (codes "::" ∷ (codes "A" ∷ (codes "{" ∷ []))))))))))
  pub marks_apart : lexed (codes "= =") ≡ codes "=" ∷ (codes "=" ∷ [])
  pub longest_first : lexed (codes "===.. .") ≡ codes "==" ∷ (codes "=" ∷ (codes ".." ∷ (codes "." ∷ [])))
  pub words_read : lexed (codes "break 'at12; v2.1.clone() r#type") ≡ codes "break" ∷ (codes "'at12" ∷ (codes ";" ∷ (codes "v2" ∷ (codes "." ∷ (codes "1" ∷ (codes "." ∷ (codes "clone" ∷ (codes "(" ∷ (codes ")" ∷ (codes "r#type" ∷ []))))))))))
  -- with such a name the text of a function hasn't the words and marks of its pieces
  pub words_there : as_many_words names (called 0 0) ≡ true
  pub words_lost : as_many_words quoting (called 0 0) ≡ false
  -- whole functions
  pub code_read : read_function (notation gives_one) (tokens_of (function_body (notation gives_one) code)) ≡ Some (shown_code (notation gives_one) code)
  pub many_read : read_function (notation gives_many) (tokens_of (function_body (notation gives_many) many)) ≡ Some (shown_code (notation gives_many) many)
  pub leaving_read : read_function (notation gives_option) (tokens_of (function_body (notation gives_option) leaving)) ≡ Some (shown_code (notation gives_option) leaving)
  -- one whose last brace is missing, and one that ends as those of another kind
  pub end_missing : read_function (notation gives_one) (code_tokens (notation gives_one) code) ≡ None
  pub end_other : read_function (notation gives_many) (code_tokens (notation gives_many) code ++ (word none_word ∷ (word closing_brace ∷ []))) ≡ None
  -- a constant of an enum's type, compared with a reference that is made on the spot
  pub looked_at_written : text_of gives_one (looked_at lent) ≡ looked_at_text
  pub looked_at_writable : writable (notation gives_one) false (looked_at lent) ≡ true
  pub looked_at_read : read_as gives_one (code_tokens (notation gives_one) (looked_at lent)) ≡ Some (shown_code (notation gives_one) (looked_at lent), [])
  -- but not with what is cloned; a reference that is itself compared is no match, and no other value is compared so
  pub clone_unwritable : writable (notation gives_one) false (looked_at cloned) ≡ false
  pub reference_compared : read_as gives_one (comparison (word ampersand ∷ (variable_name 2 ∷ [])) (constant_name 1)) ≡ Some (one_statement (if_equal (use_of (variable 2) lent) (use_of (name_written 1) as_it_is) no_statement), [])
  pub other_compared : wholly (read_as gives_one (comparison (word star ∷ (word ampersand ∷ (variable_name 2 ∷ []))) (variable_name 3))) ≡ false
