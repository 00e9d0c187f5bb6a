-- 01's and 02's limits that are the same in every house, all in one place.
-- Assumes nothing.
use Rattle.std.specs.Prelude.{ℕ}

pub record Limits : Type 0 where
  -- of a deck's text
  pub cards : ℕ
  pub statements : ℕ
  pub statement_number : ℕ
  pub parentheses : ℕ
  pub fewest_exits : ℕ
  pub most_exits : ℕ
  pub nesting : ℕ
  -- of numbers and of the object's tables
  pub digits : ℕ
  pub names : ℕ
  pub dos : ℕ
  pub constants : ℕ
  pub elements : ℕ
  pub exits : ℕ
  pub code : ℕ
  pub cells : ℕ
  pub format_words : ℕ
  pub list_items : ℕ
  pub transfers : ℕ
  -- of the machine
  pub stack : ℕ

abbrev pub limits : Limits
limits =
    record {
      cards = 512;
      statements = 400;
      statement_number = 99999;
      parentheses = 16;
      fewest_exits = 2;
      most_exits = 10;
      nesting = 8;
      digits = 9;
      names = 100;
      dos = 64;
      constants = 256;
      elements = 256;
      exits = 1024;
      code = 4096;
      cells = 4096;
      format_words = 4096;
      list_items = 1024;
      transfers = 400;
      stack = 40;
    }
