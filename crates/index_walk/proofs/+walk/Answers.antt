use Rattle.std.proofs.Common.{rules}
use native.Mathlib.Omega.{arith}
use Rattle.words.proofs.Answers.{failed, passed}
use Rattle.index_walk.proofs.Walks.{Row, Tagged, Less, One, Two, no_row, too_many, no-leaf, a-leaf, no_key, no-first, one-is, no_less, no_second, no-branch, two_is, a-branch}
use mathlib.Core.Path.{◌≡◌, refl, sym, ◌∙◌}
use mathlib.Core.List.{List}
use Rattle.std.specs.declared.option.Option.{Option}
use Rattle.index_image.specs.declared.Shape.{Shape}
use Rattle.words.specs.Words.{words}
use Rattle.words.proofs.Laws.{Bytes}
use Rattle.words.proofs.Tables.{never}
use Rattle.index_walk.specs.Walked.{Walked}
use Rattle.leaf_rows.specs.Leaves.{Uppers}
use Rattle.branch_rows.specs.Branches.{KeyIn}
use Rattle.index_walk.proofs.Uppers.{words-put, uppers-put, put_back}
use Prim.Native.Nat.{ℕ, ◌+◌, ◌-◌, ◌≤◌}
use Rattle.index_walk.proofs.+walk.Goals.{After-count_at-all, After-exchange-old, After-get, After-get-c, After-node_at-at, After-put, After-walk-less, After-walk, Else-not-key_ok, In_ok-t, In_ok-w, Start}
use Rattle.index_walk.proofs.+walk.Goals as goal

-- ---- what is known at the places of the walk
-- the numbers of the header are small
numbers : {t : ℕ} (a : Start t) → (a.args.image.now.shape.nodes ≤ 8191) × (a.args.image.now.shape.entries ≤ 4096)
numbers a =
    let r = a.args.image.now.ready.range in
    (omega (arith, r.nodes-to, r.cap-to), omega (arith, r.few, r.cap-to))

-- its number of entries, its tag and its key
row : {t : ℕ} (c : After-get-c t) → Row c.args.image.now.ready (words c.args.hi.now) c.args.labels.start c.args.labels.end c.args.k c.args.lo
    c.args.avail c.get-c.result
row c =
    record { places = c.requires.k_le_nodes.1; count = rw c.node_at-at.ensures at c.get-c.ensures }

tagged : {t : ℕ} (c : After-get t) → Tagged c.args.image.now.ready (words c.args.hi.now) c.args.labels.start c.args.labels.end c.args.k c.args.lo c.args.avail c.get-c.result c.get.result
tagged c = record {
  row = record { places = c.requires.k_le_nodes.1; count = rw c.node_at-at.ensures at c.get-c.ensures };
  used = omega (arith, c.if-image-k.false);
  fits = omega (arith, c.if-avail-c.false);
  tag_is = rw c.node_at-at.ensures at c.get.ensures;
}

keyed : {t : ℕ} (c : Else-not-key_ok t) → KeyIn (words c.args.image.now.bytes.now) c.args.image.now.shape c.node_at-at.result
keyed c = passed c.key_ok.result c.key_ok.ensures c.if-not-key_ok.false

-- the bounds of the less side, which are put back behind it
bounds : {t : ℕ} (c : After-exchange-old t) → Uppers c.args.image.now.shape.variables c.exchange-old.new.hi
bounds c =
    let sides = c.sides-b in
    uppers-put c.args.image.now.shape.variables c.args.hi.now c.requires.uppers sides.result.variable sides.result.power
    sides.ensures.known sides.ensures.small sides.ensures.some c.exchange-old.new.hi c.exchange-old.ensures.hi_after

kept : {t : ℕ} (c : After-put t) → Bytes c.put.new.s → c.put.new.s ≡ c.args.hi.now
kept c small =
    let sides = c.sides-b in
    let exchange = c.exchange-old in
    let walk = c.walk-less in
    let put = c.put in
    put_back c.args.image.now.shape.variables c.args.hi.now c.requires.uppers sides.result.variable sides.result.power
    sides.ensures.known sides.ensures.small
    (λ i. search rules) walk.new.hi put.new.s
    exchange.result small (walk.ensures.hi_unchanged ∙ exchange.ensures.hi_after) exchange.ensures.value put.ensures

-- the less side was walked
less : {t : ℕ} (c : After-walk-less t)
    → Less c.args.image.now.ready (words c.args.hi.now) c.args.labels.start c.args.labels.end c.args.k c.args.lo c.args.avail c.get-c.result c.get.result c.sides-b.result c.walk-less.result
less c =
    let sides = c.sides-b in
    let put = words-put c.args.image.now.shape.variables c.args.hi.now c.requires.uppers sides.result.variable sides.result.power
    sides.ensures.known sides.ensures.small c.exchange-old.new.hi c.exchange-old.ensures.hi_after in
    record {
      tagged = record {
        row = record { places = c.requires.k_le_nodes.1; count = rw c.node_at-at.ensures at c.get-c.ensures };
        used = omega (arith, c.if-image-k.false);
        fits = omega (arith, c.if-avail-c.false);
        tag_is = rw c.node_at-at.ensures at c.get.ensures;
      };
      no-leaf = c.if-get-eq0.false;
      key = rw c.node_at-at.ensures at (passed c.key_ok.result c.key_ok.ensures c.if-not-key_ok.false);
      cut = rw c.node_at-at.ensures at sides.ensures;
      walked = rw put at c.walk-less.ensures.walked;
    }

-- it has a tree, so its numbers are known
one : {t : ℕ} (c : In_ok-t t) (l : Less c.args.image.now.ready (words c.args.hi.now) c.args.labels.start c.args.labels.end c.args.k c.args.lo c.args.avail c.get-c.result c.get.result c.sides-b.result c.walk-less.result)
    → One c.args.image.now.ready l c.in_ok-t.was
one c l = one-is c.args.image.now.ready l c.in_ok-t.was

-- the count that is read again is the same
count_same : {t : ℕ} (c : After-count_at-all t) → c.count_at-all.result ≡ c.get-c.result
count_same c = c.count_at-all.ensures ∙ sym (rw c.node_at-at.ensures at c.get-c.ensures)

from-there : (W : List ℕ) (s : Shape) (H : List ℕ) (a b lh k lo n : ℕ) (r : Option ℕ) → Walked W s H a lh k lo n r → a ≡ b → Walked W s H b lh k lo n r
from-there W s H a b lh k lo n r w e = rw e at w

-- the other side was walked
other : {t : ℕ} (c : After-walk t) → c.put.new.s ≡ c.args.hi.now
    → Walked (words c.args.image.now.bytes.now) c.args.image.now.shape (words c.args.hi.now) c.sides-b.result.other.start c.sides-b.result.other.end (c.args.k + 1 + c.in_ok-t.t) (c.args.lo + c.count_behind-ca.result) (c.get-c.result - c.count_behind-ca.result) c.walk.result
other c k = from-there _ _ _ _ _ _ _ _ _ _ (rw k at (rw (c.count_at-all.ensures ∙ sym (rw c.node_at-at.ensures at c.get-c.ensures)) at c.walk.ensures.walked)) (omega arith)

two : {t : ℕ} (c : In_ok-w t) (l : Less c.args.image.now.ready (words c.args.hi.now) c.args.labels.start c.args.labels.end c.args.k c.args.lo c.args.avail c.get-c.result c.get.result c.sides-b.result c.walk-less.result)
    (o : Walked (words c.args.image.now.bytes.now) c.args.image.now.shape (words c.args.hi.now) c.sides-b.result.other.start c.sides-b.result.other.end (c.args.k + 1 + c.in_ok-t.t) (c.args.lo + c.count_behind-ca.result) (c.get-c.result - c.count_behind-ca.result) c.walk.result)
    → Two c.args.image.now.ready l c.in_ok-t.was c.count_behind-ca.ensures o c.in_ok-w.was
two c l o = two_is c.args.image.now.ready l c.in_ok-t.was c.count_behind-ca.ensures o c.in_ok-w.was

pub returns-then-image-k : goal.returns-then-image-k
returns-then-image-k t c = record { walked = no_row c.args.image.now.ready c.if-image-k.true; hi_unchanged = refl }

pub returns-then-avail-c : goal.returns-then-avail-c
returns-then-avail-c t c = record { walked = too_many c.args.image.now.ready (row (goal.at.returns-then-avail-c t c).After-get-c) c.if-avail-c.true; hi_unchanged = refl }

pub returns-then-leaf_ok : goal.returns-then-leaf_ok
returns-then-leaf_ok t c =
    let Node-at = c.node_at-at in
    let ok = rw Node-at.ensures at (c.leaf_ok.ensures.0 c.if-leaf_ok.true) in record { walked = a-leaf c.args.image.now.ready (tagged (goal.at.returns-then-leaf_ok t c).After-get) c.if-get-eq0.true ok; hi_unchanged = refl }

pub returns-then-get-eq0 : goal.returns-then-get-eq0
returns-then-get-eq0 t c =
    let Node-at = c.node_at-at in record {
      walked = no-leaf c.args.image.now.ready (tagged (goal.at.returns-then-get-eq0 t c).After-get) c.if-get-eq0.true
          (λ o. never (sym c.if-leaf_ok.false ∙ c.leaf_ok.ensures.1 (rw Node-at.ensures o)));
      hi_unchanged = refl;
    }

pub returns-then-not-key_ok : goal.returns-then-not-key_ok
returns-then-not-key_ok t c =
    let Node-at = c.node_at-at in
    let key-ok = c.key_ok in record {
      walked = no_key c.args.image.now.ready (tagged (goal.at.returns-then-not-key_ok t c).After-get) c.if-get-eq0.false
          (λ o. failed key-ok.result key-ok.ensures c.if-not-key_ok.true (rw Node-at.ensures o));
      hi_unchanged = refl;
    }

pub walk-less-requires : goal.walk-less-requires
walk-less-requires t c =
    let get = c.get-c in
    let if2 = c.if-avail-c in (
      omega (arith, c.decreases, if2.false, (keyed (goal.at.walk-less-requires t c).Else-not-key_ok).two, get.ensures),
      (bounds (goal.at.walk-less-requires t c).After-exchange-old, (omega (arith, c.if-image-k.false), omega (arith, c.requires.k_le_nodes.1, if2.false))),
    )

pub returns-in_err-t : goal.returns-in_err-t
returns-in_err-t t c = record {
  walked = rw c.from_residual.ensures (no-first c.args.image.now.ready
      (less (goal.at.returns-in_err-t t c).After-walk-less) c.in_err-t.was);
  hi_unchanged = kept (goal.at.returns-in_err-t t c).After-put (λ i. search rules);
}

pub count_behind-ca-requires : goal.count_behind-ca-requires
count_behind-ca-requires t c =
    let n = one (goal.at.count_behind-ca-requires t c).In_ok-t
    (less (goal.at.count_behind-ca-requires t c).After-walk-less) in
    (omega (arith, n.some, n.inside), c.node_at-at.ensures)

pub returns-then-ca-eq0 : goal.returns-then-ca-eq0
returns-then-ca-eq0 t c =
    let less-entries = no_less c.args.image.now.ready
    (less (goal.at.returns-then-ca-eq0 t c).After-walk-less) c.in_ok-t.was c.count_behind-ca.ensures c.if-ca-eq0.true in record { walked = less-entries; hi_unchanged = kept (goal.at.returns-then-ca-eq0 t c).After-put (λ i. search rules) }

pub overflow_add-lo : goal.overflow_add-lo
overflow_add-lo t c =
    let if2 = c.if-avail-c in
    omega (
      arith,
      (one (goal.at.overflow_add-lo t c).In_ok-t
          (less (goal.at.overflow_add-lo t c).After-walk-less)).few,
      c.count_behind-ca.ensures,
      c.requires.k_le_nodes.1,
      if2.false,
      numbers (goal.at.overflow_add-lo t c).Start,
    )

pub overflow_sub-all : goal.overflow_sub-all
overflow_sub-all t c = omega (
  arith,
  count_same (goal.at.overflow_sub-all t c).After-count_at-all,
  (one (goal.at.overflow_sub-all t c).In_ok-t
      (less (goal.at.overflow_sub-all t c).After-walk-less)).few,
  c.count_behind-ca.ensures,
)

pub walk-requires : goal.walk-requires
walk-requires t c =
    let Numbers-of = one (goal.at.walk-requires t c).In_ok-t (less (goal.at.walk-requires t c).After-walk-less) in
    let if2 = c.if-avail-c in
    let count-behind = c.count_behind-ca in
    let if7 = c.if-ca-eq0 in (
      omega (arith, count_same (goal.at.walk-requires t c).After-count_at-all, c.decreases, if2.false, (keyed (goal.at.walk-requires t c).Else-not-key_ok).two, c.get-c.ensures, if7.false),
      (rw (kept (goal.at.walk-requires t c).After-put (λ i. search rules)) c.requires.uppers, (Numbers-of.inside, omega (arith, count_same (goal.at.walk-requires t c).After-count_at-all, Numbers-of.few, count-behind.ensures, c.requires.k_le_nodes.1, if2.false))),
    )

pub returns-in_err-w : goal.returns-in_err-w
returns-in_err-w t c =
    let found = less (goal.at.returns-in_err-w t c).After-walk-less in
    let count-behind = c.count_behind-ca in record {
      walked = rw c.from_residual-in_err-w.ensures (no_second c.args.image.now.ready found c.in_ok-t.was count-behind.ensures
          (other (goal.at.returns-in_err-w t c).After-walk (kept (goal.at.returns-in_err-w t c).After-put (λ i. search rules))) c.in_err-w.was);
      hi_unchanged = c.walk.ensures.hi_unchanged ∙ kept (goal.at.returns-in_err-w t c).After-put (λ i. search rules);
    }

pub over_ok-requires : goal.over_ok-requires
over_ok-requires t c =
    let Node-at = c.node_at-at in
    let both = two (goal.at.over_ok-requires t c).In_ok-w
    (less (goal.at.over_ok-requires t c).After-walk-less)
    (other (goal.at.over_ok-requires t c).After-walk (kept (goal.at.over_ok-requires t c).After-put (λ i. search rules))) in record { t_bound = omega (arith, both.inside, both.some); key_in = rw Node-at.ensures at (keyed (goal.at.over_ok-requires t c).Else-not-key_ok); slots = both.slots }

pub overflow_add-result-then-over_ok : goal.overflow_add-result-then-over_ok
overflow_add-result-then-over_ok t c =
    omega (
      arith,
      (two (goal.at.overflow_add-result-then-over_ok t c).In_ok-w
          (less (goal.at.overflow_add-result-then-over_ok t c).After-walk-less)
          (other (goal.at.overflow_add-result-then-over_ok t c).After-walk (kept (goal.at.overflow_add-result-then-over_ok t c).After-put (λ i. search rules)))).inside,
      numbers (goal.at.overflow_add-result-then-over_ok t c).Start,
    )

pub returns-then-over_ok : goal.returns-then-over_ok
returns-then-over_ok t c =
    let found = less (goal.at.returns-then-over_ok t c).After-walk-less in
    let count-behind = c.count_behind-ca in
    record {
      walked = a-branch c.args.image.now.ready found c.in_ok-t.was count-behind.ensures
          (other (goal.at.returns-then-over_ok t c).After-walk (kept (goal.at.returns-then-over_ok t c).After-put (λ i. search rules))) c.in_ok-w.was
          (c.over_ok.ensures.0 c.if-over_ok.true);
      hi_unchanged = c.walk.ensures.hi_unchanged ∙ kept (goal.at.returns-then-over_ok t c).After-put (λ i. search rules);
    }

pub returns : goal.returns
returns t c =
    let found = less (goal.at.returns t c).After-walk-less in
    let count-behind = c.count_behind-ca in record {
      walked = no-branch c.args.image.now.ready found c.in_ok-t.was count-behind.ensures (other (goal.at.returns t c).After-walk (kept (goal.at.returns t c).After-put (λ i. search rules)))
          (λ o. never (sym c.if-over_ok.false ∙ c.over_ok.ensures.1 o));
      hi_unchanged = c.walk.ensures.hi_unchanged ∙ kept (goal.at.returns t c).After-put (λ i. search rules);
    }
