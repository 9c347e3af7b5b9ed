-- How names are written in Rust. A name is a text of UTF-8 bytes.
use Rattle.std.specs.Prelude.{ℕ, Bool, true, false, ◌&&◌, ◌||◌, ◌==◌, List, [], ◌∷◌, ◌++◌, map, codes, encode_utf8, not, if◌then◌else◌}
use Rattle.std.specs.Char.{is_ascii_digit, is_ascii_alphanumeric}
use Rattle.std.specs.List.{flat_map, list_any, list_all}
use Rattle.std.specs.Str.{bytes_eq, chars}

-- the keywords that can be written after `r#`: those of each edition, and those that are kept for later
abbrev pub raw_keywords : List (List ℕ)
raw_keywords = codes "as" ∷ codes "break" ∷ codes "const" ∷ codes "continue" ∷ codes "else" ∷ codes "enum" ∷ codes "extern"
    ∷ codes "false" ∷ codes "fn" ∷ codes "for" ∷ codes "if" ∷ codes "impl" ∷ codes "in" ∷ codes "let" ∷ codes "loop"
    ∷ codes "match" ∷ codes "mod" ∷ codes "move" ∷ codes "mut" ∷ codes "pub" ∷ codes "ref" ∷ codes "return" ∷ codes "static"
    ∷ codes "struct" ∷ codes "trait" ∷ codes "true" ∷ codes "type" ∷ codes "unsafe" ∷ codes "use" ∷ codes "where"
    ∷ codes "while" ∷ codes "async" ∷ codes "await" ∷ codes "dyn" ∷ codes "abstract" ∷ codes "become" ∷ codes "box"
    ∷ codes "do" ∷ codes "final" ∷ codes "gen" ∷ codes "macro" ∷ codes "override" ∷ codes "priv" ∷ codes "try"
    ∷ codes "typeof" ∷ codes "unsized" ∷ codes "virtual" ∷ codes "yield" ∷ []

-- those that can't
abbrev pub path_keywords : List (List ℕ)
path_keywords = codes "crate" ∷ codes "self" ∷ codes "super" ∷ codes "Self" ∷ []

abbrev pub is_among : List (List ℕ) → List ℕ → Bool
is_among words name = list_any (λ word. bytes_eq word name) words

-- what identifiers are made of: ASCII letters, digits and `_`
abbrev pub is_word : ℕ → Bool
is_word c = is_ascii_alphanumeric c || c == 95

-- an identifier may not begin so: with nothing, or with a digit
abbrev pub needs_front : List ℕ → Bool
needs_front [] = true
needs_front (c ∷ cs) = is_ascii_digit c

-- an identifier or a keyword
abbrev pub is_identifier : List ℕ → Bool
is_identifier name = not (needs_front name) && not (bytes_eq name (codes "_")) && list_all is_word name

-- what stands for a character
abbrev pub word_for : ℕ → ℕ
word_for c = if is_ascii_alphanumeric c then c else 95

-- what stands before a name that no identifier begins as
abbrev pub front : List ℕ → List ℕ
front name = if needs_front name then codes "_" else []

-- a name as a part of an identifier
abbrev pub part : List ℕ → List ℕ
part name = front name ++ map word_for (chars name)

-- nothing but one character that is no letter and no digit
abbrev pub is_blank : List ℕ → Bool
is_blank [] = true
is_blank (c ∷ []) = not (is_ascii_alphanumeric c)
is_blank (c ∷ (d ∷ cs)) = false

-- what stands before a word that is a keyword
abbrev pub raw_mark : List ℕ → List ℕ
raw_mark name = if is_among raw_keywords name then codes "r#" else []

-- what stands behind a name that would be a keyword, or `_`
abbrev pub end_mark : List ℕ → List ℕ
end_mark name = if is_among path_keywords name || is_blank (chars name) then codes "_" else []

-- a name as an identifier
abbrev pub spelled : List ℕ → List ℕ
spelled name = raw_mark name ++ part name ++ end_mark name

-- a character before the first of some texts
abbrev pub onto_first : ℕ → List (List ℕ) → List (List ℕ)
onto_first c [] = (c ∷ []) ∷ []
onto_first c (segment ∷ segments) = (c ∷ segment) ∷ segments

-- the texts between the marks `::`, which are taken from the left; `true`: behind a `:` that may begin a mark
abbrev pub segments_from : Bool → List ℕ → List (List ℕ)
segments_from false [] = [] ∷ []
segments_from true [] = codes ":" ∷ []
segments_from false (c ∷ cs) = if c == 58 then segments_from true cs else onto_first c (segments_from false cs)
segments_from true (c ∷ cs) = if c == 58 then [] ∷ segments_from false cs else onto_first 58 (onto_first c (segments_from false cs))

abbrev pub segments : List ℕ → List (List ℕ)
segments name = segments_from false name

abbrev pub are_several : List (List ℕ) → Bool
are_several [] = false
are_several (x ∷ []) = false
are_several (x ∷ (y ∷ ys)) = true

-- identifiers with `::` between them, two at least
abbrev pub is_path : List ℕ → Bool
is_path name = are_several (segments name) && list_all is_identifier (segments name)

-- texts with `::` between them
abbrev pub joined : List (List ℕ) → List ℕ
joined [] = []
joined (segment ∷ []) = segment
joined (segment ∷ (next ∷ segments)) = segment ++ codes "::" ++ joined (next ∷ segments)

-- an identifier of a path
abbrev pub raw_segment : List ℕ → List ℕ
raw_segment segment = raw_mark segment ++ segment

-- a name of what stands in the module above
abbrev pub spelled_path : List ℕ → List ℕ
spelled_path name = if is_path name then joined (map raw_segment (segments name)) else spelled name

abbrev pub truths : List (List ℕ)
truths = codes "true" ∷ codes "false" ∷ []

-- the name of a constant
abbrev pub spelled_constant : List ℕ → List ℕ
spelled_constant name = if is_among truths name then name else spelled_path name

-- a character within quotes: `"` and `\` stand behind a `\`
abbrev pub escaped : ℕ → List ℕ
escaped c = if c == 34 || c == 92 then 92 ∷ (c ∷ []) else encode_utf8 c

-- a text within quotes
abbrev pub quoted : List ℕ → List ℕ
quoted text = 34 ∷ [] ++ flat_map escaped (chars text) ++ 34 ∷ []
