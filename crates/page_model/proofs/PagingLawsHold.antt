-- The laws of several lemmas.
use Rattle.page_model.specs.Laws.{EntriesAreCounted, EntriesShow, FillsStand, ProtectionStands, StoresStand, AlikesStand, HandledPass}
use Rattle.page_model.proofs.OneEdit.{hits, misses, named_by, shown_valid, shown_gone, counted_same, counted_edit, counted_one, counted_two, counted_none}
use Rattle.page_model.proofs.MachineMoves.{placed, opened, closed, stored}
use Rattle.page_model.proofs.HandlerEdits.{fills}
use Rattle.page_model.proofs.ViewsAlike.{stands_on, brought_on, handled_read}
use Rattle.page_model.proofs.AtMostTwoFaults.{done, passes_on, filled_last, stays_filled}
use Rattle.page_model.proofs.WhatUsersSee.{translated_word}

pub counts_are : EntriesAreCounted
counts_are = record { same = counted_same; edit = counted_edit; one = counted_one; two = counted_two; none = counted_none }

pub entries_are : EntriesShow
entries_are = record { names = hits; misses = misses; either = named_by; valid = shown_valid; gone = shown_gone; through = translated_word }

pub fills_are : FillsStand
fills_are = record { placed = placed; filled = fills }

pub protections_are : ProtectionStands
protections_are = record { opened = opened; closed = closed }

pub stores_are : StoresStand
stores_are l v v' q f w a b s lt alive n u ps k = stored l v v' q f w a b s lt alive n u ps k.entries k.counts k.slots k.words k.frames k.sectors k.hand

pub alikes_are : AlikesStand
alikes_are = record { stands = stands_on; brought = brought_on }

pub handled_are : HandledPass
handled_are = record { passes = done; reads = handled_read; stays = passes_on; last = filled_last; kept = stays_filled }
