-- A list of edits as it is lent, and as words: "lent a list of 0 to 256 edits".
use Rattle.std.specs.Prelude.{ℕ, zero, suc, ◌+◌, ◌*◌, ◌<◌, ◌≡◌, cond, List, [], ◌∷◌, ltb, get_or, set}
use Rattle.editlist.specs.declared.Edit.{Edit}

abbrev pub edit_limit : ℕ
edit_limit = 256

abbrev pub edit : ℕ → ℕ → ℕ → Edit
edit kind number value = record { kind = kind; number = number; value = value }

-- what stands past the end of a list
abbrev pub none : Edit
none = edit 0 0 0

-- ---- a list in words, three an edit: its kind, its number, its value, whatever numbers they are
abbrev pub edit_words : ℕ
edit_words = 3

abbrev pub list_length : ℕ
list_length = edit_words * edit_limit

-- edit i of the words, and the words with edit i put into them
abbrev pub edit_at : List ℕ → ℕ → Edit
edit_at words i = edit (get_or words (edit_words * i) 0) (get_or words (edit_words * i + 1) 0) (get_or words (edit_words * i + 2) 0)

abbrev pub with_edit : List ℕ → ℕ → Edit → List ℕ
with_edit words i e = set (set (set words (edit_words * i) e.kind) (edit_words * i + 1) e.number) (edit_words * i + 2) e.value

-- the k edits of the words from edit i on
abbrev pub edits_from : List ℕ → ℕ → ℕ → List Edit
edits_from words i zero = []
edits_from words i (suc k) = edit_at words i ∷ edits_from words (suc i) k

abbrev pub edits_in : List ℕ → ℕ → List Edit
edits_in words count = edits_from words 0 count

-- a list that is too long is not taken apart
abbrev pub listed_count : ℕ → ℕ
listed_count len = cond (ltb edit_limit len) 0 len

-- the words hold the first k of the edits
abbrev pub Listed : List Edit → ℕ → List ℕ → Type 0
Listed es k words = (i : ℕ) → i < k → edit_at words i ≡ get_or es i none
