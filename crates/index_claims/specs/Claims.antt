-- What is claimed of the index on bytes, for all bytes, over what its doors ensure: an opening leaves open_bytes and returns open_number,
-- and RunIs is what the door of call lists ensures. The proofs are in proofs/Theorems.antt, under the same names in small letters. Assumes nothing.
use Rattle.std.specs.Prelude.{◌≡◌, List, [], ◌∷◌, ◌++◌, ℕ, zero, suc, ◌*◌, length, get_or, drop}
use Rattle.std.proofs.Math.Option.{some}
use Rattle.words.specs.Kinds.{kind, refusal_word}
use Rattle.words.specs.Words.{words}
use Rattle.words.specs.Tables.{part}
use Rattle.kd_theory.specs.Tree.{inorder}
use Rattle.index_theory.specs.Entries.{Entry}
use Rattle.index_theory.specs.State.{Kind, State, opened}
use Rattle.index_theory.specs.Searches.{Query}
use Rattle.index_theory.specs.Calls.{Call, calls, listed, Request, query, insert_number, refused, asks, ask, after, answers, held}
use Rattle.index_theory.specs.Claims.{CallOf, AnswerIs, Ties}
use Rattle.index_theory.specs.Demand3.{Side, HoldsEach, NotUnsaid}
use Rattle.index_image.specs.Layout.{shape_of, Is}
use Rattle.index_image.specs.Shape as at
use Rattle.index_opening.specs.Kinds.{index_kind}
use Rattle.divisor_index.specs.Doors.{open_number, open_bytes, RunIs}

-- ---- an opening that is served leaves a sound image, which holds nothing; one that is refused changes nothing
pub record OpeningLeaves (k m c : ℕ) (xs bs : List ℕ) : Type 0 where
  pub image : open_number k m c xs bs ≡ 0 → Is (opened (index_kind k) m c (words xs)) (open_bytes k m c xs bs)
  pub kept : (open_number k m c xs bs ≡ 0 → ⊥) → open_bytes k m c xs bs ≡ bs

abbrev pub OpeningServed : Type 0
OpeningServed = (k m c : ℕ) (xs bs : List ℕ) → OpeningLeaves k m c xs bs

-- ---- a list of calls
-- the calls that were run, by the number returned: all of the list, or none where it is refused whole
abbrev pub ran_calls : ℕ → List ℕ → List Call
ran_calls zero list = calls (words list)
ran_calls (suc r) list = []

-- the image of the state st, and the answer buffer, after the calls cs
pub record RunLeaves (st : State) (cs : List Call) (bs out bs' out' : List ℕ) : Type 0 where
  -- sound again, of the same kind and variables, storing exactly what is held, each entry under the number that it had or was answered
  pub image : Is (after st cs) bs'
  pub only : (u : State) → Is u bs' → u ≡ after st cs
  pub side : Side st cs
  -- one answer word a call, in place
  pub answered : part (words out') 0 (length cs) ≡ answers st cs
  -- bytes past the image, and past the answers, stay
  pub image-rest : drop (4 * at.size (shape_of st)) bs' ≡ drop (4 * at.size (shape_of st)) bs
  pub answers-rest : drop (4 * length cs) out' ≡ drop (4 * length cs) out
  pub image-long : length bs' ≡ length bs
  pub answers-long : length out' ≡ length out

abbrev pub SoundKept : Type 0
SoundKept = (st : State) (bs list out bs' out' : List ℕ) (r : ℕ) → Is st bs → RunIs bs list out bs' out' r
    → (r ≡ 0 → listed (words list) ≡ some (ran_calls r list)) × RunLeaves st (ran_calls r list) bs out bs' out'

-- what is held after the calls cs, where the image at their start is that of st
abbrev pub held_after : State → List Call → List Entry
held_after st cs = held st.kind st.variables st.capacity st.entries cs

-- ---- each answer
-- the answer word a to the call c, behind the calls cs, by what is held then; ties go by the order of the tree that it leaves
pub record Right (st : State) (cs : List Call) (c : Call) (a : ℕ) : Type 0 where
  pub six-seven : (n : ℕ) → ask st.kind st.variables c ≡ refused n → a ≡ refusal_word n
  pub right : (x : Request) → ask st.kind st.variables c ≡ asks x → AnswerIs st.capacity (held_after st cs) x a
  pub tie : (x : Query) → ask st.kind st.variables c ≡ asks (query x) → Ties (held_after st cs) (inorder (after st (cs ++ (c ∷ []))).tree) x a

abbrev pub EveryAnswer : Type 0
EveryAnswer = (st : State) (bs list out bs' out' : List ℕ) (r : ℕ) → Is st bs → RunIs bs list out bs' out' r
    → (cs : List Call) (c : Call) (ds : List Call) → ran_calls r list ≡ cs ++ (c ∷ ds) → Right st cs c (get_or (words out') (length cs) 0)

-- ---- demand 3
-- one side: an image of st, of an opening or sound in any way, and any bytes as a list on it, run or refused whole
pub record Queried (st u : State) (cs : List Call) (c : Call) (a : ℕ) : Type 0 where
  pub image : List ℕ
  pub list : List ℕ
  pub out : List ℕ
  pub image' : List ℕ
  pub out' : List ℕ
  pub returned : ℕ
  pub is : Is st image
  pub ran : RunIs image list out image' out' returned
  -- then its image is that of u, and a list is run on it that has the query c, alone or behind the calls cs
  pub question : List ℕ
  pub behind : List Call
  pub answers : List ℕ
  pub image'' : List ℕ
  pub answers' : List ℕ
  pub then : Is u image'
  pub calls : listed (words question) ≡ some (cs ++ (c ∷ behind))
  pub asked : RunIs image' question answers image'' answers' 0
  -- a is its answer word in the buffer, no refusal
  pub answer : a ≡ get_or (words answers') (length cs) 0
  pub no-refusal : kind a ≡ 5 → ⊥

-- c is a query, and what the first answered, over H, the second, over K, does not unsay
pub record Upheld (k : Kind) (m : ℕ) (H K : List Entry) (c : Call) (a b : ℕ) : Type 0 where
  pub question : Query
  pub calls : CallOf k m (query question) c
  pub not-unsaid : NotUnsaid H K question a b

-- two such sides of one kind and variable count, the same call, no insert: where, repeats counted, all that the first then holds
-- the second holds
abbrev pub Demand3Bytes : Type 0
Demand3Bytes = (st su u v : State) (cs ds : List Call) (c : Call) (a b : ℕ) → Queried st u cs c a → Queried su v ds c b
    → st.kind ≡ su.kind → st.variables ≡ su.variables → (c.number ≡ insert_number st.kind → ⊥)
    → HoldsEach (held_after u cs) (held_after v ds) → Upheld st.kind st.variables (held_after u cs) (held_after v ds) c a b
