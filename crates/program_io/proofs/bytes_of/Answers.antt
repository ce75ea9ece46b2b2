use Rattle.std.proofs.Common.{◌≡◌, ℕ, ◌/◌, ◌%◌, ◌<◌, ◌^◌, [], ◌∷◌, ◌++◌, arith, rules, take, get_or, ap, sym, ◌∙◌}
use Rattle.std.specs.Int.{w32, to_le_bytes}
use Rattle.words.specs.Words.{bytes}
use Rattle.words.proofs.Laws.{bytes-append}
use Rattle.std.proofs.lemmas.List.{take_more}
use Rattle.program_io.proofs.bytes_of.Goals as goal

le-bytes : (n : ℕ) → n < 2 ^ 32 → to_le_bytes w32 n ≡ bytes (n ∷ [])
unfolding bytes
le-bytes n h =
    let top : n / 16777216 % 256 ≡ n / 16777216 = omega arith in
    ap (λ x. n % 256 ∷ n / 256 % 256 ∷ n / 65536 % 256 ∷ x ∷ []) top

pub loop-w-init : goal.loop-w-init
unfolding bytes
loop-w-init c = c.new-v.ensures.items

pub loop-w-preserved : goal.loop-w-preserved
loop-w-preserved c =
    let i = c.loop-w.w-index in
    let xs = c.args.list.now in
    let w = get_or xs i 0 in
    c.in_ok-extend_from_slice.ensures.items
    ∙ ap (λ l. l ++ c.to_le_bytes.result) c.loop-w.invariant
    ∙ ap (λ l. bytes (take i xs) ++ l) (c.to_le_bytes.ensures ∙ le-bytes w (c.type_inv.list i).fits)
    ∙ sym (bytes-append (take i xs) (w ∷ []))
    ∙ ap bytes (sym (take_more xs i 0 (search rules)))
