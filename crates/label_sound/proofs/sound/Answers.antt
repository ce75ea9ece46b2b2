use mathlib.Core.Path.{sym}
use Rattle.fast_compare.proofs.Exact.{head_of}
use Rattle.label_sound.proofs.sound.Goals as goal

pub returns-then-map-ge16 : goal.returns-then-map-ge16
returns-then-map-ge16 c = let e = rw (c.get.ensures, c.get-then-map-ge16.ensures) at c.sound_for.ensures in (
  λ z. record { state = (e.0 z).state; is = (e.0 z).is },
  λ s. let h = head_of c.args.map.now s.state s.is in e.1 (record { state = s.state; is = s.is; vars = sym h.variables; cap = sym h.capacity }),
)
