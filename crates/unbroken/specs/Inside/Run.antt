-- How closed windows carry the unbroken run of days that begins with today, one after another: `carry_fair` and `carry_settled` of
-- dating (proofs/Runs.antt) say what is known of it.
use Rattle.std.specs.Prelude.{ℕ, ◌+◌, min, max, Bool, false, cond, ◌&&◌, leb, ltb, Option, Some, None}
use Rattle.matching.specs.Matching.{Window}
use Rattle.unbroken.specs.declared.Run.{Run}

abbrev pub run : (until : ℕ) (stretch : Option Window) (left : Option ℕ) → Run
run until stretch left = record { until = until; stretch = stretch; left = left }

-- the lesser of the day that is kept, if one is, and another
unfoldable pub earlier : Option ℕ → ℕ → ℕ
earlier None day = day
earlier (Some known) day = min known day

-- what begins on day d follows on from day u: on the next day at the latest
unfoldable pub follows_from : (u d : ℕ) → Bool
follows_from u d = leb d (u + 1)

-- the day that is kept, if one is, follows on
unfoldable pub reaches : ℕ → Option ℕ → Bool
reaches u None = false
reaches u (Some d) = follows_from u d

-- a stretch of days, or a window that touches it, together
abbrev pub joined : Window → Window → Window
joined s w = record { first = min s.first w.first; last = max s.last w.last }

-- the run up to day u: the stretch is taken into it where it follows on
unfoldable pub with_stretch : ℕ → Option Window → Option ℕ → Run
with_stretch u None left = run u None left
with_stretch u (Some s) left = cond (follows_from u s.first) (run (max u s.last) None left) (run u (Some s) left)

-- a window that does not follow on yet: it is the stretch, or lengthens it; of two that lie apart the earlier one is kept, and
-- of the other its first day, as left out
unfoldable pub set_aside : ℕ → Option Window → Option ℕ → Window → Run
set_aside u None left w = run u (Some w) left
set_aside u (Some s) left w =
    cond (follows_from s.last w.first && follows_from w.last s.first)
    (run u (Some (joined s w)) left)
    (cond (ltb w.first s.first)
    (run u (Some w) (Some (earlier left s.first)))
    (run u (Some s) (Some (earlier left w.first))))

-- a closed window carries the run where it follows on, and is set aside where it does not
unfoldable pub carry : Run → Window → Run
carry r w =
    cond (follows_from r.until w.first)
    (with_stretch (max r.until w.last) r.stretch r.left)
    (set_aside r.until r.stretch r.left w)
