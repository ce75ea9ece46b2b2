-- The kinds of words, from document 01: the top 4 bits are the kind, 28 bits the payload. Assumes nothing.
use Rattle.std.specs.Prelude.{Bool, ℕ, ◌+◌, ◌*◌, ◌/◌, ◌%◌, eqb}

abbrev pub kind : ℕ → ℕ
kind w = w / 268435456

abbrev pub payload : ℕ → ℕ
payload w = w % 268435456

-- of a variable's word (kind 1, and kind 2 for a ratio): the id in bits 27-16, the power in bits 15-0.
-- A ratio's word holds power + 32,768 there.
abbrev pub ident : ℕ → ℕ
ident w = w / 65536 % 4096

abbrev pub power : ℕ → ℕ
power w = w % 65536

-- the upper half: kind and id, 4,096 times the kind and the id
abbrev pub upper_half : ℕ → ℕ
upper_half w = w / 65536

-- the id in an upper half
abbrev pub upper_ident : ℕ → ℕ
upper_ident u = u % 4096

-- the end of a monomial or ratio has kind 0
abbrev pub is_end : ℕ → Bool
is_end w = eqb (kind w) 0

-- the word of a kind and a payload
abbrev pub word_of : ℕ → ℕ → ℕ
word_of k p = 268435456 * k + p

-- kind 0: the end of a monomial or ratio of n variables
abbrev pub end_word : ℕ → ℕ
end_word n = n

-- kinds k = 1 and 2: variable v with p in the bits of its power
abbrev pub var_word : ℕ → ℕ → ℕ → ℕ
var_word k v p = 268435456 * k + (65536 * v + p)

abbrev pub index_word : ℕ → ℕ
index_word i = word_of 3 i

abbrev pub answer_word : ℕ → ℕ
answer_word p = word_of 4 p

abbrev pub refusal_word : ℕ → ℕ
refusal_word n = word_of 5 n

abbrev pub call_word : ℕ → ℕ
call_word n = word_of 6 n
