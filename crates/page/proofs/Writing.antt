-- A page's lines, written one after another as the list is read again, and what the whole call gives.
use mathlib.Core.Path.{◌≡◌, refl, ap, sym, subst, ◌∙◌}
use mathlib.Core.Bool.{true, false}
use mathlib.Core.List.{List, [], ◌∷◌, ◌++◌, flat_map, append_assoc, append-nil}
use Prim.Native.Nat.{ℕ, ◌+◌, ◌*◌, ◌/◌, ◌<◌, ◌≤◌}
use native.Mathlib.Nat.{mul-suc}
use native.Mathlib.Omega.{arith}
use lib.ListN.{length, length-append}
use Rattle.rules.specs.Answers.{Answer, answer, refused}
use Rattle.rules.specs.Buffers.{written, after}
use Rattle.rules.proofs.Answers.{same_answer, then_answer, then_refused}
use Rattle.rules.proofs.Buffers.{written_all, kept}
use Rattle.grant.specs.Grant.{Grant, grants_by}
use Rattle.grant.specs.Items.{items_of}
use Rattle.matching.specs.Matching.{pass_bad, covers}
use Rattle.board.specs.Board.{grant_line, dated_line}
use Rattle.board.proofs.Laws.{line_count}
use Rattle.writer.specs.declared.Writer.{Writer}
use Rattle.writer.specs.Writing.{Wrote, WroteAll}
use Rattle.writer.proofs.Writing.{wrote_all, wrote_both, wrote_none}
use Rattle.page.specs.Page.{dated_grant_at, applying, page_text, page_of, page_answer, page_buffer}
use Rattle.page.specs.Promise.{PageBytes}
use Rattle.page.specs.Inside.Reading.{lines_of, lines_text, Fits}
use Rattle.page.proofs.Listing.{dated_list, dated_whole, Next, dated_next, dated_never, dated_none}

module _ (l r day : ℕ) where
  -- a grant that applies has a line, another one has none
  page_applies : (g : Grant) (gs : List Grant) → covers l r g ≡ true → page_text l r day (g ∷ gs) ≡ grant_line day g ++ page_text l r day gs
  unfolding page_text applying flat_map
  page_applies g gs y = rw y

  page_other : (g : Grant) (gs : List Grant) → covers l r g ≡ false → page_text l r day (g ∷ gs) ≡ page_text l r day gs
  unfolding page_text applying
  page_other g gs y = rw y

  -- 41 bytes for each
  lines_count : (gs : List Grant) → length (flat_map (grant_line day) gs) ≡ 41 * length gs
  unfolding flat_map
  lines_count [] = refl
  lines_count (g ∷ gs) =
      omega (arith, length-append (grant_line day g) (flat_map (grant_line day) gs), line_count day g, lines_count gs, mul-suc 41 (length gs))

pub page_count : PageBytes
unfolding page_text
page_count l r day gs = lines_count l r day (applying l r gs)

none : (text : List ℕ) → length text ≡ 0 → text ≡ []
none [] e = refl
none (x ∷ text) e = absurd (omega arith)

module _ (l r day : ℕ) (bytes : List ℕ) (whole : ℕ) (begun : Writer) where
  -- before an item is read: some of the page is written, the rest of the list reads in, and its lines are the rest of the page
  pub record Left (w : Writer) (left : List (Answer Grant)) : Type 0 where
    pub lines : List ℕ
    pub wrote : WroteAll begun w lines
    pub grants : List Grant
    pub reads : dated_list left ≡ answer grants
    pub split : lines_text l r day bytes ≡ lines ++ page_text l r day grants
    pub count : length (lines_text l r day bytes) ≡ whole
    pub room : begun.at + whole ≤ length begun.buffer.now

  pub begins : Fits l r day bytes whole begun → Left begun (items_of bytes)
  unfolding lines_text
  begins f =
      record {
        lines = [];
        wrote = wrote_none begun (omega (arith, f.room));
        grants = f.grants;
        reads = dated_whole bytes ∙ f.reads;
        split = rw f.reads;
        count = rw f.reads f.count;
        room = f.room;
      }

  module _ {w : Writer} {left : List (Answer Grant)} (h : Left w left) where
    text_count : length (h.lines) + length (page_text l r day h.grants) ≡ whole
    text_count = omega (arith, ap length h.split, h.count, length-append h.lines (page_text l r day h.grants))

    -- where no more lines come, the page is written
    written_out : page_text l r day h.grants ≡ [] → WroteAll begun w (lines_text l r day bytes)
    written_out e = subst (WroteAll begun w) (sym (h.split ∙ ap (λ rest. h.lines ++ rest) e ∙ append-nil h.lines)) h.wrote

    -- so is it where the writer stands at its end
    pub full : w.at ≡ begun.at + whole → WroteAll begun w (lines_text l r day bytes)
    full e = written_out (none (page_text l r day h.grants) (omega (arith, text_count, h.wrote.place, e)))

    pub ends : left ≡ [] → WroteAll begun w (lines_text l r day bytes)
    unfolding page_text applying flat_map
    ends e = written_out (ap (page_text l r day) (dated_none (rw e at h.reads)))

    -- an item is a grant
    pub not_refused : {C : Type 0} {n : ℕ} {rest : List (Answer Grant)} → left ≡ refused n ∷ rest → C
    not_refused {n = n} {rest} e = dated_never n rest (rw e at h.reads)

    module _ {g : Grant} {rest : List (Answer Grant)} (e : left ≡ answer g ∷ rest) where
      next : Next g rest h.grants
      next = dated_next (rw e at h.reads)

      -- one without a line
      pub without : covers l r g ≡ false → Left w rest
      without y =
          let n = next in
          record {
            lines = h.lines;
            wrote = h.wrote;
            grants = n.rest;
            reads = n.others;
            split = h.split ∙ ap (λ rest. h.lines ++ rest) (ap (page_text l r day) n.split ∙ page_other l r day g n.rest y);
            count = h.count;
            room = h.room;
          }

      -- one with a line, for which there is room
      pub with_line : {after_it : Writer} → covers l r g ≡ true → Wrote w after_it (dated_line day g) → Left after_it rest
      unfolding dated_line
      with_line {after_it} y f =
          let n = next in
          let t : page_text l r day h.grants ≡ grant_line day g ++ page_text l r day n.rest = ap (page_text l r day) n.split ∙ page_applies l r day g n.rest y in
          let wrote : Wrote w after_it (grant_line day g) = rw n.good at f in
          let k : length h.lines + length (grant_line day g) ≤ whole = omega (arith, ap length t, text_count, length-append (grant_line day g) (page_text l r day n.rest)) in
          let fits : w.at + length (grant_line day g) ≤ length w.buffer.now = omega (arith, h.wrote.place, h.wrote.same_length, h.room, k) in
          record {
            lines = h.lines ++ grant_line day g;
            wrote = wrote_both h.wrote (wrote_all wrote fits) (omega (arith, h.room, k));
            grants = n.rest;
            reads = n.others;
            split = h.split ∙ ap (λ rest. h.lines ++ rest) t ∙ sym (append_assoc h.lines (grant_line day g) (page_text l r day n.rest));
            count = h.count;
            room = h.room;
          }

-- ## The whole call

module _ (l r day : ℕ) (bytes buffer : List ℕ) where
  pub page_bad : pass_bad l r day ≡ true → (refused 15 ≡ page_answer l r day bytes buffer) × (buffer ≡ page_buffer (page_of l r day bytes) buffer)
  unfolding page_answer page_of page_buffer
  page_bad e = (rw e, rw e)

  module _ (good : pass_bad l r day ≡ false) where
    pub page_refused : {n : ℕ} → lines_of l r bytes ≡ refused n → (refused n ≡ page_answer l r day bytes buffer) × (buffer ≡ page_buffer (page_of l r day bytes) buffer)
    unfolding lines_of page_answer page_of page_buffer
    page_refused e = let f = then_refused (grants_by dated_grant_at bytes) _ e in (rw (good, f), rw (good, f))

    module _ {n : ℕ} (e : lines_of l r bytes ≡ answer n) where
      -- the list that was read
      read : (gs : List Grant) × (grants_by dated_grant_at bytes ≡ answer gs) × (length (applying l r gs) ≡ n)
      unfolding lines_of
      read = let a = then_answer (grants_by dated_grant_at bytes) _ e in (a.0, a.1, same_answer a.2)

      bytes_count : length (page_text l r day read.0) ≡ 41 * n
      bytes_count = omega (arith, page_count l r day read.0, read.2)

      page_read : (written buffer 0 (page_text l r day read.0) ≡ page_answer l r day bytes buffer)
          × (after buffer 0 (page_text l r day read.0) ≡ page_buffer (page_of l r day bytes) buffer)
      unfolding page_answer page_of page_buffer
      page_read = (rw (good, read.1), rw (good, read.1))

      pub page_short : length buffer / 41 < n → (refused 30 ≡ page_answer l r day bytes buffer) × (buffer ≡ page_buffer (page_of l r day bytes) buffer)
      page_short h =
          let k = kept buffer 0 (page_text l r day read.0) (omega (arith, bytes_count)) in
          (k.0 ∙ page_read.0, k.1 ∙ page_read.1)

      pub page_fits : (w : Writer) → w.at ≡ 0 → w.buffer.now ≡ buffer → n ≤ length buffer / 41 → Fits l r day bytes (n * 41) w
      page_fits w e f h = record { grants = read.0; reads = read.1; count = omega (arith, bytes_count); room = omega (arith, e, ap length f) }

      pub page_written : {next : List ℕ} → n ≤ length buffer / 41 → next ≡ after buffer 0 (lines_text l r day bytes)
          → (answer (n * 41) ≡ page_answer l r day bytes buffer) × (next ≡ page_buffer (page_of l r day bytes) buffer)
      unfolding lines_text
      page_written h f =
          let count : n * 41 ≡ length (page_text l r day read.0) = omega (arith, bytes_count) in
          let same_text : lines_text l r day bytes ≡ page_text l r day read.0 = rw read.1 in (
            ap answer count ∙ sym (written_all buffer 0 (page_text l r day read.0) (omega (arith, bytes_count))) ∙ page_read.0,
            f ∙ ap (after buffer 0) same_text ∙ page_read.1,
          )
