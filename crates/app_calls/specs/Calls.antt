-- What a call says of its arguments, and what it leaves behind.
use Rattle.std.specs.Prelude.{ℕ, ◌+◌, ◌<◌, ◌≤◌, ◌≡◌, ◌≢◌, ◌⊎◌, Bool, true, false, ◌&&◌, List, [], ◌∷◌, length, take, drop}
use Rattle.std.specs.Str.{IsUtf8, is_utf8}
use Rattle.app_calls.specs.declared.inputs.FileLengths.{FileLengths}
use Rattle.app_calls.specs.declared.output.Sizes.{Sizes}
use Rattle.app_calls.specs.declared.statuses.TheConstants.{DONE, ERRORS, WRONG_OPTION, NO_MEMORY}
use Rattle.app_calls.specs.declared.statuses.TheConstants.{WRONG_LENGTHS, NOT_UTF8, NO_ROOM, NO_CODE, WRONG_PREFIX}

-- how many bytes a file's name and text take
abbrev pub length_of : FileLengths → ℕ
length_of f = f.name_length + f.text_length

abbrev pub total_length : List FileLengths → ℕ
total_length [] = 0
total_length (f ∷ fs) = length_of f + total_length fs

-- the names and texts of files take as many bytes as there are
abbrev pub AddUp : List FileLengths → List ℕ → Type 0
AddUp files bytes = total_length files ≡ length bytes

-- the name and the text of a file that these bytes begin with, and what is behind them
abbrev pub name_in : FileLengths → List ℕ → List ℕ
name_in f bytes = take f.name_length bytes

abbrev pub text_in : FileLengths → List ℕ → List ℕ
text_in f bytes = take f.text_length (drop f.name_length bytes)

abbrev pub bytes_behind : FileLengths → List ℕ → List ℕ
bytes_behind f bytes = drop f.text_length (drop f.name_length bytes)

-- the texts of the files whose names and texts stand one after the other in these bytes
abbrev pub texts_in : List FileLengths → List ℕ → List (List ℕ)
texts_in [] bytes = []
texts_in (f ∷ fs) bytes = text_in f bytes ∷ texts_in fs (bytes_behind f bytes)

-- whether all names and texts that stand one after the other in these bytes are UTF-8
abbrev pub are_texts : List FileLengths → List ℕ → Bool
are_texts [] bytes = true
are_texts (f ∷ fs) bytes = is_utf8 (name_in f bytes) && (is_utf8 (text_in f bytes) && are_texts fs (bytes_behind f bytes))

-- some name or text isn't
abbrev pub AreOther : List FileLengths → List ℕ → Type 0
AreOther files bytes = are_texts files bytes ≡ false

-- what a call answers then
abbrev pub TellsOther : ℕ → Type 0
TellsOther status = (status ≡ NOT_UTF8) ⊎ (status ≡ NO_MEMORY)

-- the lengths of prefixes, which are handed in as files are, add up to their bytes, which are UTF-8
abbrev pub ArePrefixes : List FileLengths → List ℕ → Type 0
ArePrefixes prefixes bytes = AddUp prefixes bytes × (are_texts prefixes bytes ≡ true)

-- what a call answers where they don't, or aren't
abbrev pub TellsPrefixes : ℕ → Type 0
TellsPrefixes status = (status ≡ WRONG_PREFIX) ⊎ (status ≡ NO_MEMORY)

-- the statuses that come with a text
abbrev pub HasText : ℕ → Type 0
HasText status = (status ≡ DONE) ⊎ ((status ≡ ERRORS) ⊎ (status ≡ NO_CODE))

-- what a call leaves in the buffer and in the sizes beside its status
pub record LeavesBehind (out out' : List ℕ) (sizes : Sizes) (status : ℕ) : Type 0 where
  pub within : sizes.written ≤ length out
  pub beyond : drop sizes.written out' ≡ drop sizes.written out
  pub text : IsUtf8 (take sizes.written out')
  pub whole : status ≢ NO_ROOM → sizes.written ≡ sizes.needed
  pub short : status ≡ NO_ROOM → length out < sizes.needed
  pub without : ¬ (HasText status) → sizes.written ≡ 0

-- the statuses of a call whose arguments are right
abbrev pub IsAnswered : ℕ → Type 0
IsAnswered status = HasText status ⊎ ((status ≡ NO_MEMORY) ⊎ (status ≡ NO_ROOM))

-- and of every call
abbrev pub IsStatus : ℕ → Type 0
IsStatus status =
    IsAnswered status ⊎ ((status ≡ WRONG_OPTION) ⊎ ((status ≡ WRONG_LENGTHS) ⊎ ((status ≡ NOT_UTF8) ⊎ (status ≡ WRONG_PREFIX))))
