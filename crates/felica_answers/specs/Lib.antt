-- The line of a result: Answer of the parser's, Long of how many elements were long, Lists of the list reader's, Written of the writer's.
pub mod Answer
pub mod Long
pub mod Lists
pub mod Written
