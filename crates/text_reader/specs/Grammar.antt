-- The parts of a list, one after another: what comes next, and that nothing does. What is wrong is what was expected, and where.
use Rattle.std.specs.Prelude.{ℕ, suc, Bool, true, false, List, [], ◌∷◌, Result, Ok, Err, ⊤, if◌then◌else◌}
use Rattle.std.specs.Str.{bytes_eq}
use Rattle.model.specs.lists.Syntax.{Position, Name}
use Rattle.text_reader.specs.declared.errors.Mistake.{Mistake}
use Rattle.text_reader.specs.declared.errors.Mistake.TheVariants as M
use Rattle.text_reader.specs.Lexemes.{expected, Wrong, ◌>>=◌}
use Rattle.text_reader.specs.FormTrees.{FormTree, a_word, a_number, a_constant, a_binding, a_list, FormTrees, no_form, form_and}

-- the parts of a list that are left, and where the list begins and ends
pub record Listed : Type 0 where
  pub parts : FormTrees
  pub at : Position
  pub ends : Position

abbrev pub listed : FormTrees → Position → Position → Listed
listed parts at ends = record { parts = parts; at = at; ends = ends }

-- something else was expected there
abbrev pub no : {A : Type 0} → Mistake → Position → Result A Wrong
no mistake at = Err (expected mistake, at)

abbrev pub place_of : FormTree → Position
place_of (a_word n) = n.at
place_of (a_number z p) = p
place_of (a_constant n p) = p
place_of (a_binding n f) = n.at
place_of (a_list fs p e) = p

-- whether a name has this text
abbrev pub reads : Name → List ℕ → Bool
reads n text = bytes_eq n.text text

-- ---- what a form is

abbrev pub name_of : FormTree → Result Name Wrong
name_of (a_word n) = Ok n
name_of (a_number z p) = no M.Name p
name_of (a_constant n p) = no M.Name p
name_of (a_binding n f) = no M.Name n.at
name_of (a_list fs p e) = no M.Name p

-- what forms are, each by itself, or what is wrong with the first that isn't
abbrev pub each_of : {A : Type 0} → (FormTree → Result A Wrong) → FormTrees → Result (List A) Wrong
each_of one no_form = Ok []
each_of one (form_and f fs) = one f >>= (λ x. each_of one fs >>= (λ xs. Ok (x ∷ xs)))

abbrev pub names_of : FormTrees → Result (List Name) Wrong
names_of fs = each_of name_of fs

abbrev pub list_of : Mistake → FormTree → Result Listed Wrong
list_of m (a_word n) = no m n.at
list_of m (a_number z p) = no m p
list_of m (a_constant n p) = no m p
list_of m (a_binding n f) = no m n.at
list_of m (a_list fs p e) = Ok (listed fs p e)

-- ---- what a list begins with

-- the next part, and the list behind it; that there is none is told at the list's end
abbrev pub next_in : Mistake → FormTrees → Position → Position → Result (FormTree × Listed) Wrong
next_in m no_form at ends = no m ends
next_in m (form_and f fs) at ends = Ok (f, listed fs at ends)

abbrev pub next_of : Mistake → Listed → Result (FormTree × Listed) Wrong
next_of m l = next_in m l.parts l.at l.ends

-- a name that comes next
abbrev pub next_name_of : Listed → Result (Name × Listed) Wrong
next_name_of l = next_of M.Name l >>= (λ p. name_of p.0 >>= (λ n. Ok (n, p.1)))

-- the name that a list begins with
abbrev pub head_of : FormTrees → Position → Result Name Wrong
head_of no_form ends = no M.Name ends
head_of (form_and f fs) ends = name_of f

-- the word that a form is, else a mistake at this place
abbrev pub word_at : Mistake → Position → FormTree → Result Name Wrong
word_at m at (a_word n) = Ok n
word_at m at (a_number z p) = no m at
word_at m at (a_constant n p) = no m at
word_at m at (a_binding n f) = no m at
word_at m at (a_list fs p e) = no m at

-- a list that begins with a word: the word, and the list behind it; anything else is told at the list's beginning
abbrev pub headed_in : Mistake → FormTrees → Position → Position → Result (Name × Listed) Wrong
headed_in m no_form at ends = no m at
headed_in m (form_and f fs) at ends = word_at m at f >>= (λ n. Ok (n, listed fs at ends))

abbrev pub headed_of : Mistake → FormTree → Result (Name × Listed) Wrong
headed_of m f = list_of m f >>= (λ l. headed_in m l.parts l.at l.ends)

-- whether this word comes next
abbrev pub is_word : List ℕ → FormTree → Bool
is_word text (a_word n) = reads n text
is_word text (a_number z p) = false
is_word text (a_constant n p) = false
is_word text (a_binding n f) = false
is_word text (a_list fs p e) = false

abbrev pub word_first : List ℕ → FormTrees → Bool
word_first text no_form = false
word_first text (form_and f fs) = is_word text f

abbrev pub behind_first : FormTrees → FormTrees
behind_first no_form = no_form
behind_first (form_and f fs) = fs

-- whether this word comes next, and the list behind it, or the list as it is
abbrev pub next_if_of : List ℕ → Listed → Bool × Listed
next_if_of text l =
    if word_first text l.parts then (true, listed (behind_first l.parts) l.at l.ends) else (false, l)

-- nothing comes next
abbrev pub ended : FormTrees → Result ⊤ Wrong
ended no_form = Ok tt
ended (form_and f fs) = no M.End (place_of f)

abbrev pub count : FormTrees → ℕ
count no_form = 0
count (form_and f fs) = suc (count fs)
