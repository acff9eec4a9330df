-- Runs, links and records with some of their fields changed, for the book: antt has no shorter way to say it.
use Rattle.std.specs.Prelude.{List, ℕ}
use Rattle.record.specs.declared.Run.{Run}
use Rattle.record.specs.declared.Link.{Link}
use Rattle.record.specs.declared.Peer.{Peer}

-- ---- a run with another t0; another Sync; another Sc; another own commit; another token; another group, own commit and rejected groups

abbrev pub with_t0 : Run → ℕ → Run
with_t0 r t0 =
    record {
      state = r.state;
      sync = r.sync;
      rejected = r.rejected;
      sc = r.sc;
      group = r.group;
      toklen = r.toklen;
      t0 = t0;
      own = r.own;
      peer = r.peer;
      token = r.token;
    }

unfoldable pub with_sync : Run → ℕ → Run
with_sync r sync =
    record {
      state = r.state;
      sync = sync;
      rejected = r.rejected;
      sc = r.sc;
      group = r.group;
      toklen = r.toklen;
      t0 = r.t0;
      own = r.own;
      peer = r.peer;
      token = r.token;
    }

unfoldable pub with_sc : Run → ℕ → Run
with_sc r sc =
    record {
      state = r.state;
      sync = r.sync;
      rejected = r.rejected;
      sc = sc;
      group = r.group;
      toklen = r.toklen;
      t0 = r.t0;
      own = r.own;
      peer = r.peer;
      token = r.token;
    }

unfoldable pub with_own : Run → List ℕ → Run
with_own r own =
    record {
      state = r.state;
      sync = r.sync;
      rejected = r.rejected;
      sc = r.sc;
      group = r.group;
      toklen = r.toklen;
      t0 = r.t0;
      own = own;
      peer = r.peer;
      token = r.token;
    }

unfoldable pub with_token : Run → ℕ → List ℕ → Run
with_token r toklen token =
    record {
      state = r.state;
      sync = r.sync;
      rejected = r.rejected;
      sc = r.sc;
      group = r.group;
      toklen = toklen;
      t0 = r.t0;
      own = r.own;
      peer = r.peer;
      token = token;
    }

unfoldable pub switched : Run → ℕ → ℕ → List ℕ → Run
switched r rejected group own =
    record {
      state = r.state;
      sync = r.sync;
      rejected = rejected;
      sc = r.sc;
      group = group;
      toklen = r.toklen;
      t0 = r.t0;
      own = own;
      peer = r.peer;
      token = r.token;
    }

-- ---- a link with another mark; another Rc and Sync; the numbers of one that has just finished

abbrev pub with_mark : Link → ℕ → Link
with_mark l superseded =
    record {
      finished = l.finished;
      superseded = superseded;
      sync = l.sync;
      spare = l.spare;
      group = l.group;
      rc = l.rc;
      t1 = l.t1;
      own = l.own;
      peer = l.peer;
    }

unfoldable pub heard_again : Link → ℕ → ℕ → Link
heard_again l rc sync =
    record {
      finished = l.finished;
      superseded = l.superseded;
      sync = sync;
      spare = l.spare;
      group = l.group;
      rc = rc;
      t1 = l.t1;
      own = l.own;
      peer = l.peer;
    }

unfoldable pub finished_as : Link → ℕ → ℕ → ℕ → ℕ → Link
finished_as l sync group rc t1 =
    record {
      finished = 1;
      superseded = 0;
      sync = sync;
      spare = 0;
      group = group;
      rc = rc;
      t1 = t1;
      own = l.own;
      peer = l.peer;
    }

-- ---- a record with another run; another link

unfoldable pub with_run : Peer → Run → Peer
with_run p r = record { used = p.used; address = p.address; run = r; link = p.link }

unfoldable pub with_link : Peer → Link → Peer
with_link p l = record { used = p.used; address = p.address; run = p.run; link = l }
