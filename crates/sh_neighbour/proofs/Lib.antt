pub mod Neighbour
